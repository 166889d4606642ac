-- What the book promises of a call that is done: what the calls of the tenant, and of its branches, answer afterwards.
use Rattle.std.specs.Prelude.{◌≡◌, true, List, ◌++◌, ℕ, ◌≤◌, Ok}
use Rattle.dates.specs.Calendar.{is_date}
use Rattle.forms.specs.Order.{demand}
use Rattle.forms.specs.Identifiers.{is_hw_id}
use Rattle.forms.specs.Output.{text, refusal}
use Rattle.forms.specs.Refusals.{by, refused}
use Rattle.user_permit.specs.Register.{is_register}
use Rattle.user_permit.specs.UserPermit.{read_permit}
use Rattle.user_permit.specs.declared.Ship.{Ship}
use Rattle.cell_permit.specs.CellPermit.{ship_words, line_of, line_end}
use Rattle.cell_permit.specs.ReadBack.{record_for}
use Rattle.tenants.specs.declared.Held.{Held}
use Rattle.tenants.specs.declared.Setting.{Setting}
use Rattle.tenants.specs.Rules.{line_cell, in_time, change_number}
use Rattle.layout.specs.Layout.{list_in, own_in}
use Rattle.changing.specs.Changing.{entry, withdrawal, new_days, bytes_after}
use Rattle.asking.specs.Asking.{edition_in, issued_from, checked_by}

-- the book after entering
abbrev pub entered_book : List ℕ → ℕ → Held → List ℕ
entered_book s t cell = bytes_after t (entry s t cell) s

-- after withdrawing
abbrev pub withdrawn_book : List ℕ → ℕ → ℕ → List ℕ
withdrawn_book s t name = bytes_after t (withdrawal s t name) s

-- after setting days
abbrev pub days_book : List ℕ → ℕ → ℕ → List ℕ
days_book s t days = bytes_after t (new_days s t days) s

-- a name gives tenant t the same in both books: its edition, and whatever is issued of it
pub record GivesTheSame (s after : List ℕ) (t name : ℕ) : Type 0 where
  pub asked : edition_in after t name ≡ edition_in s t name
  pub issued : (register permit : List ℕ) (expiry level room : ℕ)
      → issued_from after register t name expiry level permit room ≡ issued_from s register t name expiry level permit room

-- what is handed in to issue is good: the register, the user permit of a ship, the expiry, the level and the room
pub record GoodOrder (register permit : List ℕ) (expiry level room : ℕ) (ship : Ship) : Type 0 where
  pub registered : is_register register ≡ true
  pub read : read_permit register permit ≡ Ok ship
  pub date : is_date expiry ≡ true
  pub low : level ≤ 1
  pub roomy : 76 ≤ room

-- a name gives tenant t this cell: its edition when asked, its line when issued, or 112 where that is too late, and its keys when that line is checked
pub record GivesCell (s : List ℕ) (t : ℕ) (setting : Setting) (cell : Held) : Type 0 where
  pub asked : edition_in s t cell.name ≡ Ok cell.edition
  pub issued : (register permit : List ℕ) (expiry level room : ℕ) (ship : Ship) → GoodOrder register permit expiry level room ship
      → issued_from s register t cell.name expiry level permit room
      ≡ demand (in_time cell expiry) (refusal (by 112)) (text (line_of (ship_words ship.hw_id) (line_cell setting cell expiry level) ++ line_end))
  pub checked : (expiry level hw today : ℕ) → is_date expiry ≡ true → level ≤ 1 → is_hw_id hw ≡ true → is_date today ≡ true
      → checked_by s t hw today (line_of (ship_words hw) (line_cell setting cell expiry level))
      ≡ record_for today setting.days (line_cell setting cell expiry level)

-- a name gives tenant t nothing: it is not held
pub record GivesNothing (s : List ℕ) (t name : ℕ) : Type 0 where
  pub asked : edition_in s t name ≡ refused (by 104)
  pub issued : (register permit : List ℕ) (expiry level room : ℕ) (ship : Ship) → GoodOrder register permit expiry level room ship
      → issued_from s register t name expiry level permit room ≡ refusal (by 104)

-- a call changed what is held under a name: whoever reads tenant t's list, t itself and its branches, is given what then holds of that name,
-- under every other name what it was given before, and has the setting that it had
pub record Reaches (s after : List ℕ) (t name : ℕ) (Gives : ℕ → Type 0) : Type 0 where
  pub own : list_in s t ≡ t
  pub gives : (u : ℕ) → list_in s u ≡ t → Gives u
  pub others : (u : ℕ) → list_in s u ≡ t → (other : ℕ) → (other ≡ name → ⊥) → GivesTheSame s after u other
  pub setting : (u : ℕ) → list_in s u ≡ t → (own_in after u).setting ≡ (own_in s u).setting

-- after a done enter the name gives exactly that cell
abbrev pub EnterDone : Type 0
EnterDone =
    (s : List ℕ) (t : ℕ) (cell : Held) → change_number (entry s t cell) ≡ 0
    → Reaches s (entered_book s t cell) t cell.name (λ (u : ℕ). GivesCell (entered_book s t cell) u (own_in s u).setting cell)

-- after a done withdraw the name is not held
abbrev pub WithdrawDone : Type 0
WithdrawDone =
    (s : List ℕ) (t name : ℕ) → change_number (withdrawal s t name) ≡ 0
    → Reaches s (withdrawn_book s t name) t name (λ (u : ℕ). GivesNothing (withdrawn_book s t name) u name)

-- after days are set the setting has them and is else the same, and so are the cells
abbrev pub DaysDone : Type 0
DaysDone =
    (s : List ℕ) (t days : ℕ) → change_number (new_days s t days) ≡ 0
    → ((own_in (days_book s t days) t).setting.days ≡ days)
    × (((own_in (days_book s t days) t).setting.quota ≡ (own_in s t).setting.quota)
    × (((own_in (days_book s t days) t).setting.server ≡ (own_in s t).setting.server)
    × (((own_in (days_book s t days) t).setting.principal ≡ (own_in s t).setting.principal)
    × ((own_in (days_book s t days) t).cells ≡ (own_in s t).cells))))
