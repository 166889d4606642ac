-- Files that differ in the case of letters alone: they are opened alike, their lines end at the same places, and are read as the same.
-- Assumes nothing.
use mathlib.Core.Path.{◌≡◌, refl, sym, ap, ◌∙◌}
use mathlib.Core.Bool.{true}
use mathlib.Core.List.{List, [], ◌∷◌}
use Prim.Native.Nat.{ℕ}
use native.Mathlib.Omega.{arith}
use lib.Dec.{leb}
use lib.ListN.{length, get_or, drop}
use lib.Seq.{take_all}
use Rattle.octets.proofs.Every.{same_tests}
use Rattle.text.specs.Characters.{raised_text}
use Rattle.text.specs.Texts.{same_text}
use Rattle.text.proofs.Raising.{low_raised, raised_at, drop-raised, same_length}
use Rattle.text.proofs.SameTexts.{same_true, same_refl}
use Rattle.forms.proofs.HwIds.{same_form}
use Rattle.cell_permit.specs.CellPermit.{ship_words}
use Rattle.cell_permit.specs.EitherCase.{CaseAlone}
use Rattle.cell_permit.specs.Line.{read_with, given_answer}
use Rattle.cell_permit.proofs.EitherCases.{one_size, read_either_case, ship_either_case}
use Rattle.file_lines.specs.Lines.{line_length, line_ends, line_at, ecs, ends_at}
use Rattle.permit_file.specs.File.{first_place, open_of, step_by, step_of}
use Rattle.permit_file.specs.EitherCase.{CaseAloneAt, OpenEitherCase, StepsAlike, StepEitherCase}
use Rattle.permit_file.proofs.Headers.{header_alike}

-- CR and LF are no letters
raised_line : (s : List ℕ) → line_length (raised_text s) ≡ line_length s
unfolding line_length
raised_line [] = refl
raised_line (c ∷ s) = rw (raised_at s 0, low_raised c 13 (omega arith), low_raised (get_or s 0 0) 10 (omega arith), raised_line s)

-- of two lines that differ in case alone both are :ECS, or none is
still_ecs : (l m : List ℕ) → CaseAlone l m → same_text l ecs ≡ true → same_text m ecs ≡ true
still_ecs l m alone is =
    let same : l ≡ ecs = same_true l ecs is in
    let four : length m ≡ 4 = sym (one_size l m alone) ∙ ap length same in
    let equal : m ≡ ecs =
    sym (take_all 16 m (omega arith)) ∙ sym alone.start ∙ take_all 16 l (omega (arith, ap length same)) ∙ same in
    rw equal (same_refl ecs)

turned : (l m : List ℕ) → CaseAlone l m → CaseAlone m l
turned l m alone = record { start = sym alone.start; cipher = sym alone.cipher; rest = sym alone.rest }

module _ (file other : List ℕ) (place : ℕ) (alone : CaseAloneAt file other place) where
  line_length_lem : line_length (drop place file) ≡ line_length (drop place other)
  line_length_lem =
      sym (raised_line (drop place file))
      ∙ ap line_length (sym (drop-raised place file) ∙ ap (drop place) alone.letters ∙ drop-raised place other)
      ∙ raised_line (drop place other)

  one_length_lem : length file ≡ length other
  one_length_lem = same_length file other alone.letters

  line_ends_lem : line_ends file place ≡ line_ends other place
  unfolding line_ends
  line_ends_lem = rw line_length_lem

  ends_alike : ends_at file place ≡ ends_at other place
  unfolding ends_at
  ends_alike =
      let l = line_at file place in
      let m = line_at other place in
      let both : same_text l ecs ≡ same_text m ecs =
      same_tests (same_text l ecs) (same_text m ecs) (still_ecs l m alone.line) (still_ecs m l (turned l m alone.line)) in
      rw (one_length_lem, both)

pub open_either_case : OpenEitherCase
unfolding open_of
open_either_case file other header alone =
    rw (header_alike file other header (λ n h. ap (leb n) (one_length_lem file other first_place alone)), ends_alike file other first_place alone)

pub steps_alike : StepsAlike
unfolding step_by
steps_alike read file other place alone same =
    rw (one_length_lem file other place alone, ends_alike file other place alone, line_ends_lem file other place alone, same)

pub step_either_case : StepEitherCase
unfolding step_of given_answer
step_either_case hw k today days file other place same alone =
    rw (
      (ship_either_case hw k same).0,
      same_form hw k same,
      steps_alike (read_with (ship_words k) today days) file other place alone (read_either_case (ship_words k) today days _ _ alone.line),
    )
