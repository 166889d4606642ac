-- The answers from a place on: they go on by one step, and once they may be as many as bytes are left, more change nothing; they are those of the lines.
-- Assumes nothing.
use mathlib.Core.Path.{◌≡◌, refl, sym, ap, ap₂, ◌∙◌}
use mathlib.Core.Bool.{true, false}
use mathlib.Core.List.{List, [], ◌∷◌, map}
use Prim.Native.Nat.{ℕ, zero, suc, ◌+◌, ◌-◌, ◌≤◌, ◌<◌}
use native.Mathlib.Omega.{arith}
use lib.ListN.{length, take, drop}
use Rattle.std.specs.Prelude.{Result, Ok, Err}
use Rattle.octets.proofs.Every.{never_both}
use Rattle.forms.specs.declared.refusals.Refusal.{Refusal}
use Rattle.cell_permit.specs.declared.Record.{Record}
use Rattle.file_lines.specs.Lines.{line_found}
use Rattle.file_lines.specs.Walk.{enc_from, closed_from}
use Rattle.file_lines.specs.declared.LineFound.{LineFound}
use Rattle.file_lines.specs.declared.LineFound.TheVariants as found
use Rattle.file_lines.proofs.Walks.{line_bounds, found_part, at_line, at_unended, at_end}
use Rattle.permit_file.specs.File.{cursor, onward, step_by, first_place, is_end, next_place}
use Rattle.permit_file.specs.declared.Step.{Step}
use Rattle.permit_file.proofs.NextLines.{found_step, by_found}
use Rattle.permit_file.proofs.Steps.{places_rise}
use Rattle.permit_file.specs.declared.Step.TheVariants as step
use Rattle.permit_file.specs.Answers.{following, answers_from, enc_answers}

-- the answers of all lines from a place on
unfoldable pub rest : (List ℕ → Result Record Refusal) → List ℕ → ℕ → List (Result Record Refusal)
rest read file place = answers_from read file (length file - place) place

module _ (read : List ℕ → Result Record Refusal) (file : List ℕ) where
  -- a step that is not the end leaves fewer bytes
  pub rises : (place : ℕ) (s : Step) → place ≤ length file → step_by read file place ≡ s → is_end s ≡ false
      → (place < next_place s) × (next_place s ≤ length file)
  rises place s within here on = rw here at (places_rise read file place within (ap is_end here ∙ on))

  module _ (from other : ℕ → List (Result Record Refusal)) (place : ℕ) (within : place ≤ length file) where
    none_left : (s : Step) → step_by read file place ≡ s → length file ≤ place → following from s ≡ []
    none_left (step.Record r c) here last = absurd (omega (arith, rises place (step.Record r c) within here refl))
    none_left (step.Refused r c) here last = absurd (omega (arith, rises place (step.Refused r c) within here refl))
    none_left (step.End c) here last = refl

    same_after : (s : Step) → step_by read file place ≡ s → ((next : ℕ) → place < next → next ≤ length file → from next ≡ other next)
        → following from s ≡ following other s
    same_after (step.Record r c) here later =
        let on = rises place (step.Record r c) within here refl in
        ap (λ (l : List (Result Record Refusal)). Ok r ∷ l) (later c.place on.0 on.1)
    same_after (step.Refused r c) here later =
        let on = rises place (step.Refused r c) within here refl in
        ap (λ (l : List (Result Record Refusal)). Err r ∷ l) (later c.place on.0 on.1)
    same_after (step.End c) here later = refl

  pub enough : (n m place : ℕ) → place ≤ length file → length file - place ≤ n → length file - place ≤ m
      → answers_from read file n place ≡ answers_from read file m place
  unfolding answers_from
  enough zero zero place within hn hm = refl
  enough zero (suc m) place within hn hm =
      sym (none_left (answers_from read file m) (answers_from read file m) place within (step_by read file place) refl (omega arith))
  enough (suc n) zero place within hn hm =
      none_left (answers_from read file n) (answers_from read file n) place within (step_by read file place) refl (omega arith)
  enough (suc n) (suc m) place within hn hm =
      same_after (answers_from read file n) (answers_from read file m) place within (step_by read file place) refl
      (λ next later inside. enough n m next inside (omega arith) (omega arith))

  pub all_answers : first_place ≤ length file → enc_answers read file ≡ rest read file first_place
  unfolding enc_answers rest
  all_answers within = enough (length file) (length file - first_place) first_place within (omega arith) (omega arith)

  -- what is left at a place is its step's answer and what is left after it
  pub rest_step : (place : ℕ) → place ≤ length file → rest read file place ≡ following (rest read file) (step_by read file place)
  unfolding rest answers_from
  rest_step place within =
      enough (length file - place) (suc (length file)) place within (omega arith) (omega arith)
      ∙ same_after (answers_from read file (length file)) (rest read file) place within (step_by read file place) refl
      (λ next later inside. enough (length file) (length file - next) next inside (omega arith) (omega arith))

-- nothing is left at the file's end
pub rest_none : (read : List ℕ → Result Record Refusal) (file : List ℕ) → rest read file (length file) ≡ []
unfolding rest answers_from
rest_none read file =
    let none : length file - length file ≡ 0 = omega arith in
    ap (λ (n : ℕ). answers_from read file n (length file)) none

-- a line's answer, and then those from its next place on
after_line : (from : ℕ → List (Result Record Refusal)) (l : Result Record Refusal) (next : ℕ) → following from (onward l (cursor next)) ≡ l ∷ from next
after_line from (Ok r) next = refl
after_line from (Err r) next = refl

module _ (read : List ℕ → Result Record Refusal) (file : List ℕ) where
  module _ (place : ℕ) (within : place ≤ length file) where
    at-the-end : line_found file place ≡ found.End → rest read file place ≡ map read (enc_from file place)
    at-the-end here =
        rest_step read file place within
        ∙ ap (following (rest read file)) (by_found read file place ∙ ap (found_step read file place) here)
        ∙ sym (ap (map read) (at_end file place here).0)

    at-a-line : (end : ℕ) → line_found file place ≡ found.Line end → rest read file (end + 2) ≡ map read (enc_from file (end + 2))
        → rest read file place ≡ map read (enc_from file place)
    at-a-line end here later =
        rest_step read file place within
        ∙ ap (following (rest read file)) (by_found read file place ∙ ap (found_step read file place) here)
        ∙ after_line (rest read file) (read (take (end - place) (drop place file))) (end + 2)
        ∙ ap₂ (λ (s : List ℕ) (l : List (Result Record Refusal)). read s ∷ l) (found_part file place end here) later
        ∙ sym (ap (map read) (at_line file place end here).0)

    -- they are those of the lines here, if they are at every later place
    by-found : closed_from file place ≡ true
        → ((next : ℕ) → place < next → next ≤ length file → closed_from file next ≡ true → rest read file next ≡ map read (enc_from file next))
        → (f : LineFound) → line_found file place ≡ f → rest read file place ≡ map read (enc_from file place)
    by-found closed later found.End here = at-the-end here
    by-found closed later found.Unended here = absurd (never_both (closed_from file place) (at_unended file place within here).1 closed)
    by-found closed later (found.Line end) here =
        let bounds = (line_bounds file place end here).1 in
        at-a-line end here (later (end + 2) (omega (arith, bounds)) bounds.1 (sym (at_line file place end here).1 ∙ closed))

  read_on_lem : (n place : ℕ) → place ≤ length file → length file - place ≤ n → closed_from file place ≡ true
      → rest read file place ≡ map read (enc_from file place)
  read_on_lem zero place within left closed =
      by-found place within closed (λ next on inside still. absurd (omega arith)) (line_found file place) refl
  read_on_lem (suc n) place within left closed =
      by-found place within closed (λ next on inside still. read_on_lem n next inside (omega arith) still) (line_found file place) refl

  -- where the ENC part is closed the answers are those of its lines, in order
  pub answers_of_lines : first_place ≤ length file → closed_from file first_place ≡ true → enc_answers read file ≡ map read (enc_from file first_place)
  answers_of_lines within closed =
      all_answers read file within
      ∙ read_on_lem (length file - first_place) first_place within (omega arith) closed
