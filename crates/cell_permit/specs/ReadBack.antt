-- What cell permits promise: what we issue reads back.
use Rattle.std.specs.Prelude.{◌≡◌, true, ◌++◌, ℕ, ◌≤◌, length, Result, Ok}
use Rattle.forms.specs.Output.{text}
use Rattle.forms.specs.declared.refusals.Refusal.{Refusal}
use Rattle.cell_permit.specs.CellPermit.{ship_words, line_of, line_end, is_cell, written_line}
use Rattle.cell_permit.specs.Line.{notice_for, given_number, read_line}
use Rattle.cell_permit.specs.declared.Cell.{Cell}
use Rattle.cell_permit.specs.declared.Record.{Record}

-- the record that a line written from a cell must read as
abbrev pub record_for : ℕ → ℕ → Cell → Result Record Refusal
record_for today days cell =
    Ok (record {
      name = cell.name;
      key1 = cell.key1;
      key2 = cell.key2;
      expiry = cell.expiry;
      level = cell.level;
      edition = cell.edition;
      server = cell.server;
      notice = notice_for today days cell.level cell.expiry;
    })

-- every good name, expiry, keys, level, edition, Data Server ID and HW_ID: reading what writing gives, without its CR LF, answers exactly
-- those, with the notice of its level, today and days
abbrev pub LineReadsBack : Type 0
LineReadsBack =
    (hw today days room : ℕ) (cell : Cell)
    → is_cell cell ≡ true → given_number hw today days ≡ 0 → 76 ≤ room
    → (written_line hw cell room ≡ text (line_of (ship_words hw) cell ++ line_end))
    × ((length (line_of (ship_words hw) cell) ≤ 74) × (read_line hw today days (line_of (ship_words hw) cell) ≡ record_for today days cell))
