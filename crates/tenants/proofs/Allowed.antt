-- What has held where a call does something: it is refused otherwise.
-- Assumes nothing.
use mathlib.Core.Path.{◌≡◌}
use mathlib.Core.Bool.{Bool, true, ◌||◌}
use Prim.Native.Nat.{ℕ}
use lib.Dec.{ltb}
use lib.ListN.{length}
use Rattle.dates.specs.Notice.{is_days}
use Rattle.forms.specs.Order.{demand}
use Rattle.forms.specs.Identifiers.{is_cell_name}
use Rattle.forms.specs.Refusals.{by}
use Rattle.forms.specs.declared.refusals.Refusal.{Refusal}
use Rattle.forms.proofs.Demands.{demanded}
use Rattle.tenants.specs.declared.Held.{Held}
use Rattle.tenants.specs.Cells.{cell_of}
use Rattle.tenants.specs.Rules.{Own, Change, enters, withdraws, sets, nothing, refuses, is_tenant, is_held, names_none, is_some, entering, withdrawing, setting_days}
use Rattle.tenants.specs.Calls.{Call, enter, withdraw, set_days, ask_edition, ask_producer, issue, check, change_of}

-- the name is held, or the quota has room for a new one
abbrev pub has_room : Held → Own → Bool
has_room cell own = is_some (cell_of cell.name own.cells) || ltb (length own.cells) own.setting.quota

-- what has held where tenant t changes what is its own
abbrev pub Allowed : ℕ → Own → Change → Type 0
Allowed t own (enters cell) = (is_tenant t ≡ true) × ((is_held cell ≡ true) × ((names_none own.setting ≡ true) × (has_room cell own ≡ true)))
Allowed t own (withdraws name) = (is_tenant t ≡ true) × ((is_cell_name name ≡ true) × ((names_none own.setting ≡ true) × (is_some (cell_of name own.cells) ≡ true)))
Allowed t own (sets days) = (is_tenant t ≡ true) × (is_days days ≡ true)
Allowed t own nothing = Unit {0}
Allowed t own (refuses r) = Unit {0}

module _ (t : ℕ) (own : Own) where
  where_it_holds : (test : Bool) (r : Refusal) (next : Change) → (test ≡ true → Allowed t own next) → Allowed t own (demand test (refuses r) next)
  where_it_holds test r next = demanded (Allowed t own) test (refuses r) next tt

  -- every call does only that
  pub allowed : (call : Call) → Allowed t own (change_of t call own)
  unfolding entering withdrawing setting_days
  allowed (enter cell) =
      let none : Bool = names_none own.setting in
      let new : Change = demand (has_room cell own) (refuses (by 105)) (enters cell) in
      where_it_holds (is_tenant t) (by 102) (demand (is_held cell) (refuses (by 103)) (demand none (refuses (by 111)) new))
      (λ tenant. where_it_holds (is_held cell) (by 103) (demand none (refuses (by 111)) new)
      (λ held. where_it_holds none (by 111) new
      (λ keeps. where_it_holds (has_room cell own) (by 105) (enters cell) (λ room. (tenant, (held, (keeps, room)))))))
  allowed (withdraw name) =
      let held : Bool = is_some (cell_of name own.cells) in
      let none : Bool = names_none own.setting in
      let gone : Change = demand held (refuses (by 104)) (withdraws name) in
      where_it_holds (is_tenant t) (by 102) (demand (is_cell_name name) (refuses (by 103)) (demand none (refuses (by 111)) gone))
      (λ tenant. where_it_holds (is_cell_name name) (by 103) (demand none (refuses (by 111)) gone)
      (λ right. where_it_holds none (by 111) gone
      (λ keeps. where_it_holds held (by 104) (withdraws name) (λ there. (tenant, (right, (keeps, there)))))))
  allowed (set_days days) =
      where_it_holds (is_tenant t) (by 102) (demand (is_days days) (refuses (by 103)) (sets days))
      (λ tenant. where_it_holds (is_days days) (by 103) (sets days) (λ right. (tenant, right)))
  allowed (ask_edition name) = tt
  allowed (ask_producer producer) = tt
  allowed (issue register name expiry level permit room) = tt
  allowed (check hw today line) = tt
