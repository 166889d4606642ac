-- The answers of a whole file, read line by line.
use Rattle.std.specs.Prelude.{List, [], ◌∷◌, ℕ, zero, suc, length, Result, Ok, Err}
use Rattle.forms.specs.declared.refusals.Refusal.{Refusal}
use Rattle.cell_permit.specs.declared.Record.{Record}
use Rattle.permit_file.specs.File.{step_by, first_place}
use Rattle.permit_file.specs.declared.Step.{Step}
use Rattle.permit_file.specs.declared.Step.TheVariants as step

-- what follows a step: its answer and the answers from the next place on, or nothing
abbrev pub following : (ℕ → List (Result Record Refusal)) → Step → List (Result Record Refusal)
following from (step.Record r c) = Ok r ∷ from c.place
following from (step.Refused r c) = Err r ∷ from c.place
following from (step.End c) = []

-- the answers of the lines from a place on, n lines at most
unfoldable pub answers_from : (List ℕ → Result Record Refusal) → List ℕ → ℕ → ℕ → List (Result Record Refusal)
answers_from read file zero place = []
answers_from read file (suc n) place = following (answers_from read file n) (step_by read file place)

-- the answers of the ENC lines: a file has no more lines than bytes
unfoldable pub enc_answers : (List ℕ → Result Record Refusal) → List ℕ → List (Result Record Refusal)
enc_answers read file = answers_from read file (length file) first_place
