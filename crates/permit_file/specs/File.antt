-- A permit file, PERMIT.TXT: its header, and reading on from a place.
use Rattle.std.specs.Prelude.{Bool, true, false, not, ◌&&◌, List, ℕ, ◌+◌, leb, ltb, length, Result, Ok, Err}
use Rattle.text.specs.Ascii.{ascii}
use Rattle.text.specs.Texts.{stands_at}
use Rattle.forms.specs.Order.{demand}
use Rattle.forms.specs.Refusals.{by, number_of, refused, unless}
use Rattle.forms.specs.declared.refusals.Refusal.{Refusal}
use Rattle.cell_permit.specs.CellPermit.{ship_words}
use Rattle.cell_permit.specs.Line.{read_with, given_answer, line_number}
use Rattle.cell_permit.specs.Answers.{LineValues, record_values, no_values}
use Rattle.cell_permit.specs.declared.Record.{Record}
use Rattle.file_lines.specs.Lines.{line_ends, line_at, ends_at}
use Rattle.file_lines.specs.Dated.{is_dated}
use Rattle.permit_file.specs.declared.Cursor.{Cursor}
use Rattle.permit_file.specs.declared.Step.{Step}
use Rattle.permit_file.specs.declared.Step.TheVariants as step

-- the cursor at a place
abbrev pub cursor : ℕ → Cursor
cursor place = record { place = place }

-- what a line's answer gives: it, with the next cursor
abbrev pub onward : Result Record Refusal → Cursor → Step
onward (Ok r) next = step.Record r next
onward (Err r) next = step.Refused r next

-- a refusal, with the next cursor
abbrev pub refused_step : Cursor → Refusal → Step
refused_step next r = step.Refused r next

-- one step from a place, where read says what a line gives: 12 for a place beyond the file and for a line that no CR LF ends
unfoldable pub step_by : (List ℕ → Result Record Refusal) → List ℕ → ℕ → Step
step_by read file place =
    demand (leb place (length file)) (refused_step (cursor (length file)) (by 12))
    (demand (not (ends_at file place)) (step.End (cursor place))
    (demand (ltb (line_ends file place) (length file)) (refused_step (cursor (length file)) (by 12))
    (onward (read (line_at file place)) (cursor (line_ends file place + 2)))))

-- one step under the words of a ship
abbrev pub step_with : List ℕ → ℕ → ℕ → List ℕ → ℕ → Step
step_with words today days file place = step_by (read_with words today days) file place

-- one step: 18, 14 and 103 come first, and answer with the place that was given
unfoldable pub step_of : ℕ → ℕ → ℕ → List ℕ → ℕ → Step
step_of hw today days file place =
    unless (given_answer hw today days) (refused_step (cursor place))
    (step_with (ship_words hw) today days file place)

-- what follows the time
abbrev pub header_rest : List ℕ
header_rest = ascii "\r\n:VERSION 2\r\n:ENC\r\n"

-- the header: `:DATE YYYYMMDD HH:MM`, a date and a time from 00:00 to 23:59, `:VERSION 2` and `:ENC`, each ended by CR LF
unfoldable pub is_header : List ℕ → Bool
is_header file = is_dated file && stands_at header_rest file 20

-- the place of the first line after `:ENC`: the header has 40 bytes
abbrev pub first_place : ℕ
first_place = 40

-- opening a file: 12 for the header, 11 where no line follows it
unfoldable pub open_of : List ℕ → Result Cursor Refusal
open_of file =
    demand (is_header file) (refused (by 12))
    (demand (not (ends_at file first_place)) (refused (by 11))
    (Ok (cursor first_place)))

-- its place; 0 at a refusal
abbrev pub open_place : Result Cursor Refusal → ℕ
open_place (Ok c) = c.place
open_place (Err r) = 0

-- the number of a step: that of the line, and 0 for the end
abbrev pub step_number : Step → ℕ
step_number (step.Record r c) = line_number (Ok r)
step_number (step.Refused r c) = number_of r
step_number (step.End c) = 0

-- what it hands out of a line: nothing at a refusal and at the end
abbrev pub step_values : Step → LineValues
step_values (step.Record r c) = record_values r
step_values (step.Refused r c) = no_values
step_values (step.End c) = no_values

-- the place that it goes on to
abbrev pub next_place : Step → ℕ
next_place (step.Record r c) = c.place
next_place (step.Refused r c) = c.place
next_place (step.End c) = c.place

-- the step is the end
abbrev pub is_end : Step → Bool
is_end (step.Record r c) = false
is_end (step.Refused r c) = false
is_end (step.End c) = true
