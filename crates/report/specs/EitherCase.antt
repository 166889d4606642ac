-- What the look-through promises of small letters: their case changes no byte of what is printed.
use Rattle.std.specs.Prelude.{◌≡◌, List, ℕ, length, take, Result}
use Rattle.text.specs.Characters.{raised_text}
use Rattle.text.specs.Texts.{part}
use Rattle.forms.specs.Identifiers.{raised_hw_id}
use Rattle.forms.specs.declared.refusals.Refusal.{Refusal}
use Rattle.cell_permit.specs.declared.Record.{Record}
use Rattle.cell_permit.specs.CellPermit.{ship_words}
use Rattle.cell_permit.specs.Line.{read_with}
use Rattle.cell_permit.specs.EitherCase.{CaseAlone}
use Rattle.file_lines.specs.Lines.{line_at}
use Rattle.permit_file.specs.File.{first_place}
use Rattle.permit_file.specs.Steps.{place_after}
use Rattle.report.specs.LookThrough.{hw_of, today_of, days_of, file_of, report}

-- how the lines of an input are read
abbrev pub read_for : List ℕ → List ℕ → Result Record Refusal
read_for input = read_with (ship_words (hw_of input)) (today_of input) (days_of input)

-- the place of an input's line n, counted from 0
abbrev pub place_of : List ℕ → ℕ → ℕ
place_of input n = place_after (read_for input) (file_of input) n first_place

-- two inputs that differ at most in the case of letters, of the HW_ID and of characters 17 to 64 of each line
pub record InputCaseAlone (input other : List ℕ) : Type 0 where
  pub size : length input ≡ length other
  pub hw_id : raised_hw_id (hw_of input) ≡ raised_hw_id (hw_of other)
  -- the rest of the first line
  pub first : part 14 input 5 ≡ part 14 other 5
  pub header : take first_place (file_of input) ≡ take first_place (file_of other)
  pub letters : raised_text (file_of input) ≡ raised_text (file_of other)
  pub lines : (n : ℕ) → CaseAlone (line_at (file_of input) (place_of input n)) (line_at (file_of other) (place_of input n))

-- the same is printed for both
abbrev pub ReportEitherCase : Type 0
ReportEitherCase = (input other : List ℕ) → InputCaseAlone input other → report input ≡ report other
