-- What the report promises of its bounds: no line is left out, and its room is enough.
use Rattle.forms.specs.declared.refusals.Refusal.{Refusal}
use Rattle.cell_permit.specs.declared.Record.{Record}
use Rattle.std.specs.Prelude.{◌≡◌, List, ℕ, ◌+◌, ◌≤◌, length, Result}
use Rattle.permit_file.specs.File.{first_place}
use Rattle.permit_file.specs.Answers.{answers_from, enc_answers}
use Rattle.report.specs.LookThrough.{room_for}

-- however many lines more were allowed, the answers are the same: every ENC line has its answer
abbrev pub EveryLine : Type 0
EveryLine =
    (read : List ℕ → Result Record Refusal) (file : List ℕ) (more : ℕ) → first_place ≤ length file
    → answers_from read file (length file + more) first_place ≡ enc_answers read file

-- 600,000 bytes are room enough for the report of every input
abbrev pub RoomEnough : Type 0
RoomEnough = (input : List ℕ) → room_for input ≤ 600000
