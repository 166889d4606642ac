-- What the answers hand out, case by case; their numbers stand beside their calls. A refusal hands out nothing: every value is 0.
use Rattle.std.specs.Prelude.{ℕ, Result, Ok, Err}
use Rattle.forms.specs.declared.refusals.Refusal.{Refusal}
use Rattle.cell_permit.specs.declared.Record.{Record}

-- what a line hands out beside its notice
pub record LineValues : Type 0 where
  pub name : ℕ
  pub key1 : ℕ
  pub key2 : ℕ
  pub expiry : ℕ
  pub level : ℕ
  pub edition : ℕ
  pub server : ℕ

-- what a record hands out
abbrev pub record_values : Record → LineValues
record_values r = record {
  name = r.name;
  key1 = r.key1;
  key2 = r.key2;
  expiry = r.expiry;
  level = r.level;
  edition = r.edition;
  server = r.server;
}

-- nothing
abbrev pub no_values : LineValues
no_values = record {
  name = 0;
  key1 = 0;
  key2 = 0;
  expiry = 0;
  level = 0;
  edition = 0;
  server = 0;
}

-- what a line's answer hands out
abbrev pub line_values : Result Record Refusal → LineValues
line_values (Ok r) = record_values r
line_values (Err r) = no_values
