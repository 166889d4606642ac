-- What an answer goes by: the cells, the quota, the warning days, the Data Server ID, and whether it is a branch; not whose.
-- Assumes nothing.
use mathlib.Core.Path.{◌≡◌, refl, ap, ◌∙◌}
use mathlib.Core.Bool.{◌&&◌}
use mathlib.Core.List.{List, ◌++◌}
use mathlib.Core.Option.{Option, none, some}
use Prim.Native.Nat.{ℕ}
use lib.Dec.{leb}
use Rattle.dates.specs.Calendar.{is_date}
use Rattle.forms.specs.Order.{demand}
use Rattle.forms.specs.Identifiers.{is_cell_name}
use Rattle.forms.specs.Output.{Output, text, refusal}
use Rattle.forms.specs.Refusals.{by}
use Rattle.user_permit.specs.Register.{is_register}
use Rattle.std.specs.Prelude.{Result, Ok, Err}
use Rattle.forms.specs.declared.refusals.Refusal.{Refusal}
use Rattle.user_permit.specs.UserPermit.{read_permit}
use Rattle.user_permit.specs.declared.Ship.{Ship}
use Rattle.cell_permit.specs.CellPermit.{ship_words, line_of, line_end}
use Rattle.tenants.specs.declared.Held.{Held}
use Rattle.tenants.specs.declared.Setting.{Setting}
use Rattle.tenants.specs.Cells.{cell_of}
use Rattle.tenants.specs.Rules.{Own, is_tenant, names_none, entering, withdrawing, setting_days, asking, asking_producer, line_for, issuing, checking, in_time}
use Rattle.tenants.specs.Calls.{Call, enter, withdraw, set_days, ask_edition, ask_producer, issue, check, written, answer_of}

-- a line has the Data Server ID, and nothing else of a setting
same_line : (ship : Result Ship Refusal) (cell : Option Held) (setting other : Setting) (expiry level : ℕ) → setting.server ≡ other.server
    → line_for ship cell setting expiry level ≡ line_for ship cell other expiry level
same_line (Err r) cell setting other expiry level same = refl
same_line (Ok ship) none setting other expiry level same = refl
same_line (Ok ship) (some cell) setting other expiry level same =
    ap (λ (server : ℕ). demand (in_time cell expiry) (refusal (by 112)) (text (line_of (ship_words ship.hw_id) (record {
      name = cell.name;
      key1 = cell.key1;
      key2 = cell.key2;
      expiry = expiry;
      level = level;
      edition = cell.edition;
      server = server;
    }) ++ line_end)))
    same

module _ (t : ℕ) (own other : Own) (quota : own.setting.quota ≡ other.setting.quota) (days : own.setting.days ≡ other.setting.days)
    (server : own.setting.server ≡ other.setting.server) (branch : names_none own.setting ≡ names_none other.setting)
    (cells : own.cells ≡ other.cells) where
  same_issue : (register : List ℕ) (name expiry level : ℕ) (permit : List ℕ) (room : ℕ)
      → issuing t register name expiry level permit room own ≡ issuing t register name expiry level permit room other
  unfolding issuing
  same_issue register name expiry level permit room =
      ap (λ (line : Output). demand (is_register register) (refusal (by 109)) (demand (is_tenant t) (refusal (by 102))
      (demand (leb 76 room) (refusal (by 108)) (demand (is_cell_name name && is_date expiry && leb level 1) (refusal (by 103)) line))))
      (ap (λ (l : List Held). line_for (read_permit register permit) (cell_of name l) own.setting expiry level) cells
      ∙ same_line (read_permit register permit) (cell_of name other.cells) own.setting other.setting expiry level server)

  pub same_answer : (call : Call) → answer_of t call own ≡ answer_of t call other
  unfolding entering withdrawing setting_days asking asking_producer checking
  same_answer (enter cell) = cc
  same_answer (withdraw name) = cc
  same_answer (set_days days) = refl
  same_answer (ask_edition name) = cc
  same_answer (ask_producer producer) = cc
  same_answer (issue register name expiry level permit room) = ap written (same_issue register name expiry level permit room)
  same_answer (check hw today line) = cc
