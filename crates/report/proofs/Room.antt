-- Every report fits in its room: a line that is ended goes past a CR LF, and its row has 18 bytes at most.
-- Assumes nothing.
use Rattle.std.specs.Prelude.{Err, Ok, Result}
use mathlib.Core.Path.{◌≡◌, refl, sym, ap}
use mathlib.Core.Bool.{Bool, false, not, false≢true}
use mathlib.Core.List.{List, [], ◌∷◌}
use mathlib.Core.Logic.{◌⊎◌, inl, inr, ⊎_elim}
use Prim.Native.Nat.{ℕ, zero, suc, ◌+◌, ◌-◌, ◌*◌, ◌≤◌, ◌<◌}
use native.Mathlib.Omega.{arith}
use borrow.Author.Tests.{leb-true, ltb-true}
use lib.Dec.{leb, ltb}
use lib.ListN.{length, drop, length-append}
use Rattle.octets.specs.Every.{count_of}
use Rattle.octets.proofs.Digits.{digits-length}
use Rattle.octets.proofs.Every.{either}
use Rattle.text.specs.Texts.{width}
use Rattle.text.proofs.Numerals.{width-at-most, numeral-length}
use Rattle.forms.proofs.Demands.{demanded}
use Rattle.forms.specs.Refusals.{by, number_of}
use Rattle.forms.specs.declared.refusals.Refusal.{Refusal}
use Rattle.cell_permit.specs.declared.Record.{Record}
use Rattle.cell_permit.specs.Line.{line_number}
use Rattle.file_lines.specs.Lines.{line_ends, line_at, ends_at}
use Rattle.permit_file.specs.File.{refused_step, cursor, step_by, onward, first_place, is_end, next_place}
use Rattle.permit_file.specs.declared.Cursor.{Cursor}
use Rattle.permit_file.specs.declared.Step.{Step}
use Rattle.permit_file.specs.declared.Step.TheVariants as step
use Rattle.permit_file.specs.Answers.{following, answers_from, enc_answers}
use Rattle.report.specs.LookThrough.{name_shown, is_noticed, is_refused, row_of, rows_from, line_ends_in, room_for}
use Rattle.report.specs.Enough.{EveryLine, RoomEnough}
use Rattle.report.specs.Turns.{Few, row_end, tally_of}
use Rattle.permit_file.proofs.Answers.{rises, enough}
use Rattle.report.proofs.EachAnswer.{OfStep, of-step}
use Rattle.report.proofs.LineEnds.{fewer_after, line_passed, two_bytes_each}

-- a step from one place to another goes past a CR LF or to the file's end
abbrev Past : List ℕ → ℕ → ℕ → Type 0
Past file place next = (suc (line_ends_in (drop next file)) ≤ line_ends_in (drop place file)) ⊎ (next ≡ length file)

-- a step that is not the end goes past a line
abbrev Onward : List ℕ → ℕ → Step → Type 0
Onward file place s = is_end s ≡ false → Past file place (next_place s)

-- each line that is read has a number of two digits
abbrev pub Short : (List ℕ → Result Record Refusal) → Type 0
Short read = (s : List ℕ) → line_number (read s) < 100

module _ (file : List ℕ) (place : ℕ) where
  last : Onward file place (refused_step (cursor (length file)) (by 12))
  last on = inr refl

  next : (a : Result Record Refusal) (c : Cursor) → Past file place c.place → Onward file place (onward a c)
  next (Ok r) c far on = far
  next (Err n) c far on = far

module _ (read : List ℕ → Result Record Refusal) (file : List ℕ) where
  goes_past : (place : ℕ) → Onward file place (step_by read file place)
  unfolding step_by
  goes_past place =
      demanded P (leb place (length file)) end _ (last file place)
      (λ within. demanded P (not (ends_at file place)) (step.End (cursor place)) _ (λ on. absurd (false≢true (sym on)))
      (λ on. demanded P (ltb (line_ends file place) (length file)) end _ (last file place)
      (λ closed. next file place (read (line_at file place)) (cursor (line_ends file place + 2))
      (inl (line_passed file place (ltb-true (line_ends file place) (length file) closed))))))
    where
      P : Step → Type 0
      P = Onward file place

      end : Step
      end = refused_step (cursor (length file)) (by 12)

pub name_length : (a : Result Record Refusal) → length (name_shown a) ≡ 8
name_length (Ok r) = digits-length 256 8 r.name
name_length (Err n) = refl

pub row_end_length : (a : Result Record Refusal) → length (row_end a) ≡ 10
unfolding row_end
row_end_length a = simp (length-append, name_length)

row_length : (count : ℕ) (a : Result Record Refusal) → count < 100000 → line_number a < 100 → length (row_of count a) ≤ 18
unfolding row_of
row_length count a few small =
    let five : width count ≤ 5 = width-at-most count 5 few (omega arith) in
    let two : width (line_number a) ≤ 2 = width-at-most (line_number a) 2 small (omega arith) in
    simp (length-append, numeral-length, name_length) (omega arith)

module _ (read : List ℕ → Result Record Refusal) (short : Short read) (file : List ℕ) where
  two_digits : (place : ℕ) → OfStep (λ (a : Result Record Refusal). line_number a < 100) (step_by read file place)
  two_digits = of-step (λ (a : Result Record Refusal). line_number a < 100) read short (omega arith) file

  -- no row follows from the file's end
  none_after : (n next count : ℕ) → next ≡ length file → length (rows_from count (answers_from read file n next)) ≡ 0
  unfolding answers_from rows_from
  none_after n next count last =
      ap (λ (l : List (Result Record Refusal)). length (rows_from count l)) (enough read file n 0 next (omega arith) (omega arith) (omega arith))

  module _ (n place count : ℕ) (within : place ≤ length file) (few : count + (length file - place) < 100000) where
    one_more : (next : ℕ) (a : Result Record Refusal) → line_number a < 100 → (place < next) × (next ≤ length file)
        → Past file place next
        → length (rows_from (suc count) (answers_from read file n next)) ≤ 18 * (line_ends_in (drop next file) + 1)
        → length (rows_from count (a ∷ answers_from read file n next)) ≤ 18 * (line_ends_in (drop place file) + 1)
    unfolding rows_from
    one_more next a small on far later =
        let one : length (row_of count a) ≤ 18 = row_length count a (omega arith) small in
        simp length-append
        (⊎_elim
        (λ one-passed. omega arith)
        (λ last. omega (arith, none_after n next (suc count) last))
        far)

    rows-after : (s : Step) → step_by read file place ≡ s
        → ((next : ℕ) → place < next → next ≤ length file → length (rows_from (suc count) (answers_from read file n next)) ≤ 18 * (line_ends_in (drop next file) + 1))
        → length (rows_from count (following (answers_from read file n) s)) ≤ 18 * (line_ends_in (drop place file) + 1)
    unfolding rows_from
    rows-after (step.Record r c) here later =
        let on = rises read file place (step.Record r c) within here refl in
        let far : Onward file place (step.Record r c) = rw here at (goes_past read file place) in
        let small : line_number (Ok r) < 100 = rw here at (two_digits place) in
        one_more c.place (Ok r) small on (far refl) (later c.place on.0 on.1)
    rows-after (step.Refused m c) here later =
        let on = rises read file place (step.Refused m c) within here refl in
        let far : Onward file place (step.Refused m c) = rw here at (goes_past read file place) in
        let small : number_of m < 100 = rw here at (two_digits place) in
        one_more c.place (Err m) small on (far refl) (later c.place on.0 on.1)
    rows-after (step.End c) here later = omega arith

  rows_few : (n place count : ℕ) → place ≤ length file → count + (length file - place) < 100000
      → length (rows_from count (answers_from read file n place)) ≤ 18 * (line_ends_in (drop place file) + 1)
  unfolding answers_from rows_from
  rows_few zero place count within few = omega arith
  rows_few (suc n) place count within few =
      rows-after n place count within few (step_by read file place) refl
      (λ next later inside. rows_few n next (suc count) inside (omega arith))

  -- the rows of a whole file
  pub rows_room : first_place ≤ length file → length file ≤ 65536 → length (rows_from 1 (enc_answers read file)) ≤ 18 * (line_ends_in file + 1)
  unfolding enc_answers
  rows_room within size = omega (arith, rows_few (length file) first_place 1 within (omega arith), fewer_after first_place file)

-- there are no more answers than bytes, and no more of a kind than of all
few_after : (from : ℕ → List (Result Record Refusal)) (n : ℕ) → ((next : ℕ) → length (from next) ≤ n) → (s : Step) → length (following from s) ≤ suc n
few_after from n few (step.Record r c) = omega (arith, few c.place)
few_after from n few (step.Refused m c) = omega (arith, few c.place)
few_after from n few (step.End c) = omega arith

answers_few : (read : List ℕ → Result Record Refusal) (file : List ℕ) (n place : ℕ) → length (answers_from read file n place) ≤ n
unfolding answers_from
answers_few read file zero place = omega arith
answers_few read file (suc n) place = few_after (answers_from read file n) n (answers_few read file n) (step_by read file place)

pub all_few : (read : List ℕ → Result Record Refusal) (file : List ℕ) → length (enc_answers read file) ≤ length file
unfolding enc_answers
all_few read file = answers_few read file (length file) first_place

kind_few : (test : Result Record Refusal → Bool) (answers : List (Result Record Refusal)) → count_of test answers ≤ length answers
unfolding count_of
kind_few test [] = omega arith
kind_few test (a ∷ answers) =
    let fewer = kind_few test answers in
    either (test a) (λ so. rw so (omega arith)) (λ not_so. rw not_so (omega arith))

-- no count of a tally is above that of its answers
pub few_tally : (place : ℕ) (answers : List (Result Record Refusal)) → length answers < 100000 → Few 100000 (tally_of place answers)
unfolding tally_of
few_tally place answers few =
    record { count = few; current = kind (is_noticed 0); soon = kind (is_noticed 20); expired = kind (is_noticed 15); refused = kind is_refused }
  where
    kind : (test : Result Record Refusal → Bool) → count_of test answers < 100000
    kind test = omega (arith, few, kind_few test answers)

pub room_enough : RoomEnough
unfolding room_for
room_enough input =
    either (leb (length input) 65536)
    (λ short. rw short (omega (arith, two_bytes_each input, leb-true (length input) 65536 short)))
    (λ long. rw long (omega arith))

pub every_line : EveryLine
unfolding enc_answers
every_line read file more within =
    enough read file (length file + more) (length file) first_place within (omega arith) (omega arith)
