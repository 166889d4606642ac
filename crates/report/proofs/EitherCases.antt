-- What is printed for inputs that differ in the case of letters alone: they start alike, and their lines are answered alike, one after the other.
-- Assumes nothing.
use Rattle.std.specs.Prelude.{Err, Ok, Result}
use mathlib.Core.Path.{◌≡◌, refl, sym, ap, ◌∙◌}
use mathlib.Core.List.{List, ◌∷◌}
use Prim.Native.Nat.{ℕ, zero, suc, ◌+◌, ◌≤◌, ◌<◌}
use native.Mathlib.Omega.{arith}
use lib.ListN.{length, get_or, drop}
use lib.Seq.{get_or-drop}
use Rattle.text.specs.Texts.{part, all_at}
use Rattle.text.proofs.Raising.{same_length}
use Rattle.text.proofs.TextsAt.{part_of_part, same_byte}
use Rattle.forms.specs.declared.refusals.Refusal.{Refusal}
use Rattle.forms.proofs.HwIds.{same_form}
use Rattle.cell_permit.specs.declared.Record.{Record}
use Rattle.cell_permit.specs.CellPermit.{ship_words}
use Rattle.cell_permit.specs.EitherCase.{CaseAlone}
use Rattle.cell_permit.specs.Line.{given_answer}
use Rattle.cell_permit.proofs.EitherCases.{read_either_case, ship_either_case}
use Rattle.file_lines.specs.Lines.{line_at}
use Rattle.permit_file.specs.File.{step_by, first_place, open_of, next_place}
use Rattle.permit_file.specs.Steps.{place_after}
use Rattle.permit_file.specs.EitherCase.{CaseAloneAt}
use Rattle.permit_file.specs.declared.Step.{Step}
use Rattle.permit_file.specs.declared.Step.TheVariants as step
use Rattle.permit_file.proofs.EitherCases.{open_either_case, steps_alike}
use Rattle.permit_file.specs.Answers.{following, answers_from, enc_answers}
use Rattle.report.specs.LookThrough.{is_first_line, hw_of, today_of, days_of, file_of, start_answer, answers_of, report}
use Rattle.report.specs.EitherCase.{read_for, InputCaseAlone, ReportEitherCase}

-- what follows a step goes by the next place alone
follow_alike : (from other : ℕ → List (Result Record Refusal)) (x : Step) → from (next_place x) ≡ other (next_place x) → following from x ≡ following other x
follow_alike from other (step.Record r c) same = ap (λ (l : List (Result Record Refusal)). Ok r ∷ l) same
follow_alike from other (step.Refused n c) same = ap (λ (l : List (Result Record Refusal)). Err n ∷ l) same
follow_alike from other (step.End c) same = refl

-- answers from a place on, where each line that is come to is read alike
module _ (read : List ℕ → Result Record Refusal) (f g : List ℕ) (steps : (place : ℕ) → CaseAlone (line_at f place) (line_at g place) → step_by read f place ≡ step_by read g place) where
  answers_alike : (n place : ℕ) → ((m : ℕ) → CaseAlone (line_at f (place_after read f m place)) (line_at g (place_after read f m place)))
      → answers_from read f n place ≡ answers_from read g n place
  unfolding answers_from place_after
  answers_alike zero place lines = refl
  answers_alike (suc n) place lines =
      follow_alike (answers_from read f n) (answers_from read g n) (step_by read f place)
      (answers_alike n (next_place (step_by read f place)) (λ m. lines (suc m)))
      ∙ ap (following (answers_from read g n)) (steps place (lines 0))

module _ (input other : List ℕ) (alone : InputCaseAlone input other) where
  abbrev f : List ℕ
  f = file_of input

  abbrev g : List ℕ
  g = file_of other

  file_size : length f ≡ length g
  file_size = same_length f g alone.letters

  at_place : (place : ℕ) → CaseAlone (line_at f place) (line_at g place) → CaseAloneAt f g place
  at_place place here = record { letters = alone.letters; line = here }

  -- the rest of the first line
  in_first : (n k : ℕ) → k + n ≤ 14 → part n input (5 + k) ≡ part n other (5 + k)
  in_first n k h =
      sym (part_of_part n 14 input 5 k h) ∙ ap (λ (l : List ℕ). part n l k) alone.first ∙ part_of_part n 14 other 5 k h

  first_byte : (k : ℕ) → k < 14 → get_or input (5 + k) 0 ≡ get_or other (5 + k) 0
  first_byte k h =
      sym (get_or-drop 5 input k 0) ∙ same_byte 14 (drop 5 input) (drop 5 other) alone.first k h ∙ get_or-drop 5 other k 0

  first_alike : is_first_line input ≡ is_first_line other
  unfolding is_first_line all_at
  first_alike =
      rw (alone.size, first_byte 0 (omega arith), first_byte 9 (omega arith), in_first 2 10 (omega arith), in_first 2 12 (omega arith))

  today_alike : today_of input ≡ today_of other
  unfolding today_of all_at
  today_alike = rw (alone.size, in_first 8 1 (omega arith))

  days_alike : days_of input ≡ days_of other
  days_alike = rw (in_first 2 10 (omega arith))

  first_place_lem : CaseAlone (line_at f first_place) (line_at g first_place)
  unfolding place_after
  first_place_lem = alone.lines 0

  open_alike : open_of f ≡ open_of g
  open_alike = open_either_case f g alone.header (at_place first_place first_place_lem)

  start_alike : start_answer input ≡ start_answer other
  unfolding start_answer given_answer
  start_alike =
      rw (
        alone.size,
        first_alike,
        same_form (hw_of input) (hw_of other) alone.hw_id,
        today_alike,
        days_alike,
        open_alike,
      )

  steps : (place : ℕ) → CaseAlone (line_at f place) (line_at g place) → step_by (read_for input) f place ≡ step_by (read_for input) g place
  steps place here =
      steps_alike (read_for input) f g place (at_place place here)
      (read_either_case (ship_words (hw_of input)) (today_of input) (days_of input) (line_at f place) (line_at g place) here)

  answers_same : answers_of input ≡ answers_of other
  unfolding answers_of enc_answers
  answers_same =
      answers_alike (read_for input) f g steps (length f) first_place alone.lines
      ∙ rw (file_size, (ship_either_case (hw_of input) (hw_of other) alone.hw_id).0, today_alike, days_alike)

pub report_either_case : ReportEitherCase
unfolding report
report_either_case input other alone = rw (start_alike input other alone, answers_same input other alone)
