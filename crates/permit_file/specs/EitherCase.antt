-- What opening a file and reading it by steps promise: the case of letters in a line's cipher parts, and in a HW_ID, changes neither the answer nor the
-- next place.
use Rattle.std.specs.Prelude.{◌≡◌, List, ℕ, take, Result}
use Rattle.text.specs.Characters.{raised_text}
use Rattle.forms.specs.Identifiers.{raised_hw_id}
use Rattle.forms.specs.declared.refusals.Refusal.{Refusal}
use Rattle.cell_permit.specs.EitherCase.{CaseAlone}
use Rattle.cell_permit.specs.declared.Record.{Record}
use Rattle.file_lines.specs.Lines.{line_at}
use Rattle.permit_file.specs.File.{first_place, open_of, step_by, step_of}

-- two files that differ at most in the case of letters, those of the line at a place only in its characters 17 to 64
pub record CaseAloneAt (file other : List ℕ) (place : ℕ) : Type 0 where
  pub letters : raised_text file ≡ raised_text other
  pub line : CaseAlone (line_at file place) (line_at other place)

-- where their headers are the same and their first lines differ so, they are opened alike
abbrev pub OpenEitherCase : Type 0
OpenEitherCase =
    (file other : List ℕ) → take first_place file ≡ take first_place other → CaseAloneAt file other first_place → open_of file ≡ open_of other

-- a step there answers the same wherever the two lines are read as the same
abbrev pub StepsAlike : Type 0
StepsAlike =
    (read : List ℕ → Result Record Refusal) (file other : List ℕ) (place : ℕ) → CaseAloneAt file other place
    → read (line_at file place) ≡ read (line_at other place) → step_by read file place ≡ step_by read other place

-- so it does for HW_IDs that differ in case alone: number, values, next place, and whether it is the end
abbrev pub StepEitherCase : Type 0
StepEitherCase =
    (hw k today days : ℕ) (file other : List ℕ) (place : ℕ) → raised_hw_id hw ≡ raised_hw_id k → CaseAloneAt file other place
    → step_of hw today days file place ≡ step_of k today days other place
