-- What holds of every line that is read, and of 12, holds of each answer; and tests that agree on each answer count the same.
-- Assumes nothing.
use Rattle.forms.specs.Refusals.{by, refused}
use Rattle.forms.specs.declared.refusals.Refusal.{Refusal}
use Rattle.cell_permit.specs.declared.Record.{Record}
use Rattle.std.specs.Prelude.{Err, Ok, Result}
use mathlib.Core.Path.{◌≡◌, refl}
use mathlib.Core.Bool.{Bool, not}
use mathlib.Core.List.{List, [], ◌∷◌}
use Prim.Native.Nat.{ℕ, zero, suc, ◌+◌}
use lib.Dec.{leb, ltb}
use lib.ListN.{length}
use Rattle.octets.specs.Every.{count_of}
use Rattle.forms.proofs.Demands.{demanded}
use Rattle.file_lines.specs.Lines.{line_ends, line_at, ends_at}
use Rattle.permit_file.specs.File.{refused_step, cursor, step_by, onward}
use Rattle.permit_file.specs.declared.Cursor.{Cursor}
use Rattle.permit_file.specs.declared.Step.{Step}
use Rattle.permit_file.specs.declared.Step.TheVariants as step
use Rattle.permit_file.specs.Answers.{following, answers_from}

-- it holds of a step's answer; the end has none
abbrev pub OfStep : (Result Record Refusal → Type 0) → Step → Type 0
OfStep P (step.Record r c) = P (Ok r)
OfStep P (step.Refused n c) = P (Err n)
OfStep P (step.End c) = Unit {0}

-- it holds of each answer
abbrev pub OfEach : (Result Record Refusal → Type 0) → List (Result Record Refusal) → Type 0
OfEach P [] = Unit {0}
OfEach P (a ∷ answers) = P a × OfEach P answers

module _ (P : Result Record Refusal → Type 0) where
  of_onward : (a : Result Record Refusal) (c : Cursor) → P a → OfStep P (onward a c)
  of_onward (Ok r) c held = held
  of_onward (Err n) c held = held

  of_following : (from : ℕ → List (Result Record Refusal)) → ((place : ℕ) → OfEach P (from place)) → (s : Step) → OfStep P s → OfEach P (following from s)
  of_following from later (step.Record r c) held = (held, later c.place)
  of_following from later (step.Refused n c) held = (held, later c.place)
  of_following from later (step.End c) held = tt

  module _ (read : List ℕ → Result Record Refusal) (of-read : (s : List ℕ) → P (read s)) (of-12 : P (refused (by 12))) (file : List ℕ) where
    pub of-step : (place : ℕ) → OfStep P (step_by read file place)
    unfolding step_by
    of-step place =
        demanded (OfStep P) (leb place (length file)) (refused_step (cursor (length file)) (by 12)) _ of-12
        (λ within. demanded (OfStep P) (not (ends_at file place)) (step.End (cursor place)) _ tt
        (λ on. demanded (OfStep P) (ltb (line_ends file place) (length file)) (refused_step (cursor (length file)) (by 12)) _ of-12
        (λ closed. of_onward (read (line_at file place)) (cursor (line_ends file place + 2)) (of-read (line_at file place)))))

    pub of-answers : (n place : ℕ) → OfEach P (answers_from read file n place)
    unfolding answers_from
    of-answers zero place = tt
    of-answers (suc n) place = of_following (answers_from read file n) (of-answers n) (step_by read file place) (of-step place)

pub same_counts : (test other : Result Record Refusal → Bool) (answers : List (Result Record Refusal)) → OfEach (λ (a : Result Record Refusal). test a ≡ other a) answers → count_of test answers ≡ count_of other answers
unfolding count_of
same_counts test other [] none = refl
same_counts test other (a ∷ answers) each = rw (each.0, same_counts test other answers each.1)
