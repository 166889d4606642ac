-- The rules as version 1 of the book had them, whose cells had no last expiry: entering and issuing as they stood. The other rules never look at one.
use Rattle.std.specs.Prelude.{Bool, true, ◌&&◌, ◌||◌, Result, Ok, Err, List, [], ◌∷◌, ◌++◌, ℕ, leb, ltb, eqb, length}
use Rattle.std.proofs.Math.Option.{Option, none, some}
use Rattle.dates.specs.Calendar.{is_date}
use Rattle.forms.specs.Order.{demand}
use Rattle.forms.specs.Identifiers.{is_cell_name, is_cell_key}
use Rattle.forms.specs.Output.{Output, text, refusal}
use Rattle.forms.specs.Refusals.{by}
use Rattle.forms.specs.declared.refusals.Refusal.{Refusal}
use Rattle.user_permit.specs.Register.{is_register}
use Rattle.user_permit.specs.UserPermit.{read_permit}
use Rattle.user_permit.specs.declared.Ship.{Ship}
use Rattle.cell_permit.specs.CellPermit.{ship_words, line_of, line_end}
use Rattle.tenants.specs.declared.Held.{Held}
use Rattle.tenants.specs.declared.Setting.{Setting}
use Rattle.tenants.specs.Cells.{cell_of}
use Rattle.tenants.specs.Rules.{Own, Change, enters, nothing, refuses, change_number, is_tenant, names_none, is_some, withdrawing, setting_days, asking, asking_producer, line_cell, checking}
use Rattle.tenants.specs.Calls.{Call, enter, withdraw, set_days, ask_edition, ask_producer, issue, check, Answer, number, edition, holding, written, read}

-- no cell has a last expiry
unfoldable pub no_lasts : List Held → Bool
no_lasts [] = true
no_lasts (d ∷ cells) = eqb d.last 0 && no_lasts cells

-- a call of version 1: it gives no last expiry
abbrev pub gives_no_last : Call → Bool
gives_no_last (enter cell) = eqb cell.last 0
gives_no_last (withdraw name) = true
gives_no_last (set_days days) = true
gives_no_last (ask_edition name) = true
gives_no_last (ask_producer producer) = true
gives_no_last (issue register name expiry level permit room) = true
gives_no_last (check hw today line) = true

-- a cell's name, edition and keys are in their ranges and alphabets
unfoldable pub is_held_before : Held → Bool
is_held_before cell =
    is_cell_name cell.name && (leb 1 cell.edition && leb cell.edition 999) && is_cell_key cell.key1 && is_cell_key cell.key2

-- enter a cell
unfoldable pub entering_before : ℕ → Held → Own → Change
entering_before t cell own =
    demand (is_tenant t) (refuses (by 102))
    (demand (is_held_before cell) (refuses (by 103))
    (demand (names_none own.setting) (refuses (by 111))
    (demand (is_some (cell_of cell.name own.cells) || ltb (length own.cells) own.setting.quota) (refuses (by 105))
    (enters cell))))

-- the line for the ship of a user permit
abbrev pub line_for_before : Result Ship Refusal → Option Held → Setting → ℕ → ℕ → Output
line_for_before (Err r) cell setting expiry level = refusal r
line_for_before (Ok ship) none setting expiry level = refusal (by 104)
line_for_before (Ok ship) (some cell) setting expiry level = text (line_of (ship_words ship.hw_id) (line_cell setting cell expiry level) ++ line_end)

-- issue a line
unfoldable pub issuing_before : ℕ → List ℕ → ℕ → ℕ → ℕ → List ℕ → ℕ → Own → Output
issuing_before t register name expiry level permit room own =
    demand (is_register register) (refusal (by 109))
    (demand (is_tenant t) (refusal (by 102))
    (demand (leb 76 room) (refusal (by 108))
    (demand (is_cell_name name && is_date expiry && leb level 1) (refusal (by 103))
    (line_for_before (read_permit register permit) (cell_of name own.cells) own.setting expiry level))))

-- what a call of tenant t did to what is its own
abbrev pub change_before : ℕ → Call → Own → Change
change_before t (enter cell) own = entering_before t cell own
change_before t (withdraw name) own = withdrawing t name own
change_before t (set_days days) own = setting_days t days own
change_before t (ask_edition name) own = nothing
change_before t (ask_producer producer) own = nothing
change_before t (issue register name expiry level permit room) own = nothing
change_before t (check hw today line) own = nothing

-- what it answered
abbrev pub answer_before : ℕ → Call → Own → Answer
answer_before t (enter cell) own = number (change_number (entering_before t cell own))
answer_before t (withdraw name) own = number (change_number (withdrawing t name own))
answer_before t (set_days days) own = number (change_number (setting_days t days own))
answer_before t (ask_edition name) own = edition (asking t name own)
answer_before t (ask_producer producer) own = holding (asking_producer t producer own)
answer_before t (issue register name expiry level permit room) own = written (issuing_before t register name expiry level permit room own)
answer_before t (check hw today line) own = read (checking t hw today line own)
