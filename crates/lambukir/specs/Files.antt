-- The answers about permit files in the form that C sees.
use Rattle.std.specs.Prelude.{cond, ℕ, Result, Ok, Err}
use Rattle.forms.specs.Refusals.{number_of, refusal_number}
use Rattle.forms.specs.declared.refusals.Refusal.{Refusal}
use Rattle.permit_file.specs.File.{open_place, step_number, step_values, next_place, is_end}
use Rattle.permit_file.specs.declared.Cursor.{Cursor}
use Rattle.permit_file.specs.declared.Step.{Step}
use Rattle.mending.specs.declared.Lengths.{Lengths}
use Rattle.lambukir.specs.declared.files.FileOpened.{FileOpened}
use Rattle.lambukir.specs.declared.files.FileLineRead.{FileLineRead}
use Rattle.lambukir.specs.declared.files.FileMended.{FileMended}

-- a file that was opened: the place of the first line, or the refusal
abbrev pub file_opened : Result Cursor Refusal → FileOpened
file_opened o = record { place = open_place o; number = refusal_number o }

-- 1 at the end of the file
abbrev pub end_flag : Step → ℕ
end_flag s = cond (is_end s) 1 0

-- no record: only the next place, the number, and whether it is the end; for a contract inside the crate alone
abbrev pub no_record : ℕ → ℕ → ℕ → FileLineRead
no_record next number end = record {
  name = 0;
  key1 = 0;
  key2 = 0;
  next = next;
  expiry = 0;
  level = 0;
  edition = 0;
  server = 0;
  number = number;
  end = end;
}

-- one step: what it hands out, its number, the place that it goes on to, and whether it is the end
abbrev pub file_line_read : Step → FileLineRead
file_line_read s = record {
  name = (step_values s).name;
  key1 = (step_values s).key1;
  key2 = (step_values s).key2;
  next = next_place s;
  expiry = (step_values s).expiry;
  level = (step_values s).level;
  edition = (step_values s).edition;
  server = (step_values s).server;
  number = step_number s;
  end = end_flag s;
}

-- a file that was mended: both lengths, or the refusal
abbrev pub file_mended : Result Lengths Refusal → FileMended
file_mended (Ok size) = record { length = size.file; list_length = size.list; number = 0 }
file_mended (Err r) = record { length = 0; list_length = 0; number = number_of r }
