-- The answers about permits in the form that C sees: at a refusal every field but the number is 0.
use Rattle.std.specs.Prelude.{List, ℕ, ◌-◌, length, Option, Some, None, Result}
use Rattle.forms.specs.Output.{written_length}
use Rattle.forms.specs.Refusals.{refusal_number}
use Rattle.forms.specs.declared.refusals.Refusal.{Refusal}
use Rattle.user_permit.specs.Answers.{ship_hw_id, ship_mId}
use Rattle.user_permit.specs.declared.Ship.{Ship}
use Rattle.cell_permit.specs.Line.{comment_at, line_number}
use Rattle.cell_permit.specs.Answers.{line_values}
use Rattle.cell_permit.specs.declared.Cell.{Cell}
use Rattle.cell_permit.specs.declared.Record.{Record}
use Rattle.lambukir.specs.declared.permits.UserPermitRead.{UserPermitRead}
use Rattle.lambukir.specs.declared.permits.LineRead.{LineRead}
use Rattle.lambukir.specs.declared.permits.TextWritten.{TextWritten}
use Rattle.lambukir.specs.declared.permits.Part.{Part}

-- what a line is written from
abbrev pub cell_from : ℕ → ℕ → ℕ → ℕ → ℕ → ℕ → ℕ → Cell
cell_from name expiry key1 key2 level edition server = record {
  name = name;
  key1 = key1;
  key2 = key2;
  expiry = expiry;
  level = level;
  edition = edition;
  server = server;
}

-- a user permit that was read
abbrev pub user_permit_read : Result Ship Refusal → UserPermitRead
user_permit_read u = record { hw = ship_hw_id u; m = ship_mId u; number = refusal_number u }

-- a line that was read; the number of a record is that of its notice
abbrev pub line_read : Result Record Refusal → LineRead
line_read l = record {
  name = (line_values l).name;
  key1 = (line_values l).key1;
  key2 = (line_values l).key2;
  expiry = (line_values l).expiry;
  level = (line_values l).level;
  edition = (line_values l).edition;
  server = (line_values l).server;
  number = line_number l;
}

-- a text that was written
abbrev pub text_written : Result ℕ Refusal → TextWritten
text_written w = record { length = written_length w; number = refusal_number w }

-- where the comment stands in a line of so many bytes; 0 and 0 for a line that gives 12
abbrev pub part_from : ℕ → Option ℕ → Part
part_from size (Some start) = record { start = start; length = size - start }
part_from size None = record { start = 0; length = 0 }

-- the comment's part of a line
abbrev pub comment_part : List ℕ → Part
comment_part line = part_from (length line) (comment_at line)
