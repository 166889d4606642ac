-- The rules for one tenant, which go by its own list of cells and its own setting. Refusals stand in their order.
use Rattle.std.specs.Prelude.{Bool, true, false, ◌&&◌, ◌||◌, Result, Ok, Err, ⊤, List, ◌++◌, ℕ, leb, ltb, eqb, length}
use Rattle.std.proofs.Math.Option.{Option, none, some}
use Rattle.dates.specs.Calendar.{is_date}
use Rattle.dates.specs.Notice.{is_days}
use Rattle.forms.specs.Order.{demand}
use Rattle.forms.specs.Identifiers.{is_hw_id, is_producer, is_cell_name, is_cell_key}
use Rattle.forms.specs.Output.{Output, text, refusal}
use Rattle.forms.specs.Refusals.{by, number_of, refused}
use Rattle.forms.specs.declared.refusals.Refusal.{Refusal}
use Rattle.user_permit.specs.Register.{is_register}
use Rattle.user_permit.specs.UserPermit.{read_permit}
use Rattle.user_permit.specs.declared.Ship.{Ship}
use Rattle.cell_permit.specs.CellPermit.{ship_words, line_of, line_end}
use Rattle.cell_permit.specs.Line.{read_with}
use Rattle.cell_permit.specs.declared.Cell.{Cell}
use Rattle.cell_permit.specs.declared.Record.{Record}
use Rattle.tenants.specs.declared.Held.{Held}
use Rattle.tenants.specs.declared.Setting.{Setting}
use Rattle.tenants.specs.Cells.{cell_of, holds_any}

-- what is one tenant's own: its setting, and its cells in name order; a branch's are its principal's
pub record Own : Type 0 where
  pub setting : Setting
  pub cells : List Held

-- what a call does to what is the tenant's own; a refusal does nothing
pub data Change : Type 0 where
  enters : Held → Change
  withdraws : ℕ → Change
  sets : ℕ → Change
  nothing : Change
  refuses : Refusal → Change

-- its number: 0 for done
abbrev pub change_number : Change → ℕ
change_number (enters cell) = 0
change_number (withdraws name) = 0
change_number (sets days) = 0
change_number nothing = 0
change_number (refuses r) = number_of r

-- what is answered to it: done, or the refusal
abbrev pub change_answer : Change → Result ⊤ Refusal
change_answer (enters cell) = Ok tt
change_answer (withdraws name) = Ok tt
change_answer (sets days) = Ok tt
change_answer nothing = Ok tt
change_answer (refuses r) = refused r

-- tenants are 0 to 15
unfoldable pub is_tenant : ℕ → Bool
is_tenant t = leb t 15

-- a last expiry: 0 for none, or a date
unfoldable pub is_last : ℕ → Bool
is_last last = eqb last 0 || is_date last

-- a cell's name, edition (1 to 999), keys and last expiry are in their ranges and alphabets
unfoldable pub is_held : Held → Bool
is_held cell =
    is_cell_name cell.name && (leb 1 cell.edition && leb cell.edition 999) && is_cell_key cell.key1 && is_cell_key cell.key2
    && is_last cell.last

-- no principal is named, so it is no branch
unfoldable pub names_none : Setting → Bool
names_none setting = eqb setting.principal 0

-- there is a cell
abbrev pub is_some : Option Held → Bool
is_some none = false
is_some (some cell) = true

-- enter a cell, which a branch cannot: a held name is replaced, a new one needs room in the tenant's own quota
unfoldable pub entering : ℕ → Held → Own → Change
entering t cell own =
    demand (is_tenant t) (refuses (by 102))
    (demand (is_held cell) (refuses (by 103))
    (demand (names_none own.setting) (refuses (by 111))
    (demand (is_some (cell_of cell.name own.cells) || ltb (length own.cells) own.setting.quota) (refuses (by 105))
    (enters cell))))

-- withdraw a cell, which a branch cannot
unfoldable pub withdrawing : ℕ → ℕ → Own → Change
withdrawing t name own =
    demand (is_tenant t) (refuses (by 102))
    (demand (is_cell_name name) (refuses (by 103))
    (demand (names_none own.setting) (refuses (by 111))
    (demand (is_some (cell_of name own.cells)) (refuses (by 104))
    (withdraws name))))

-- set warning days
unfoldable pub setting_days : ℕ → ℕ → Own → Change
setting_days t days own =
    demand (is_tenant t) (refuses (by 102))
    (demand (is_days days) (refuses (by 103))
    (sets days))

-- the edition of a cell: 104 where it is not held
abbrev pub edition_of : Option Held → Result ℕ Refusal
edition_of none = refused (by 104)
edition_of (some cell) = Ok cell.edition

-- ask the edition
unfoldable pub asking : ℕ → ℕ → Own → Result ℕ Refusal
asking t name own =
    demand (is_tenant t) (refused (by 102))
    (demand (is_cell_name name) (refused (by 103))
    (edition_of (cell_of name own.cells)))

-- ask whether any cell is held whose name begins with two given characters
unfoldable pub asking_producer : ℕ → ℕ → Own → Result Bool Refusal
asking_producer t producer own =
    demand (is_tenant t) (refused (by 102))
    (demand (is_producer producer) (refused (by 103))
    (Ok (holds_any producer own.cells)))

-- what a line is written from: edition and keys as held, the tenant's own Data Server ID, the rest as given
abbrev pub line_cell : Setting → Held → ℕ → ℕ → Cell
line_cell setting cell expiry level = record {
  name = cell.name;
  key1 = cell.key1;
  key2 = cell.key2;
  expiry = expiry;
  level = level;
  edition = cell.edition;
  server = setting.server;
}

-- a cell may be sold for an expiry: it has no last one, or this is not later
unfoldable pub in_time : Held → ℕ → Bool
in_time cell expiry = eqb cell.last 0 || leb expiry cell.last

-- the line for the ship of a user permit: 106, 17, 107 or 18 as the permit reads, then 104 where the cell is not held, then 112 where it is too late
abbrev pub line_for : Result Ship Refusal → Option Held → Setting → ℕ → ℕ → Output
line_for (Err r) cell setting expiry level = refusal r
line_for (Ok ship) none setting expiry level = refusal (by 104)
line_for (Ok ship) (some cell) setting expiry level =
    demand (in_time cell expiry) (refusal (by 112))
    (text (line_of (ship_words ship.hw_id) (line_cell setting cell expiry level) ++ line_end))

-- issue a line, from cell name, expiry, service level and user permit, into an output of so many bytes
unfoldable pub issuing : ℕ → List ℕ → ℕ → ℕ → ℕ → List ℕ → ℕ → Own → Output
issuing t register name expiry level permit room own =
    demand (is_register register) (refusal (by 109))
    (demand (is_tenant t) (refusal (by 102))
    (demand (leb 76 room) (refusal (by 108))
    (demand (is_cell_name name && is_date expiry && leb level 1) (refusal (by 103))
    (line_for (read_permit register permit) (cell_of name own.cells) own.setting expiry level))))

-- check a line with the tenant's own warning days: 12, 13 and 21 as the line reads
unfoldable pub checking : ℕ → ℕ → ℕ → List ℕ → Own → Result Record Refusal
checking t hw today line own =
    demand (is_tenant t) (refused (by 102))
    (demand (is_hw_id hw) (refused (by 18))
    (demand (is_date today) (refused (by 14))
    (read_with (ship_words hw) today own.setting.days line)))
