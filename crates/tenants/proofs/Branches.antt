-- What is a tenant's own after a call: its own calls work on it as on one list, those of its principal change its cells, and no other's touch it.
-- Assumes nothing.
use mathlib.Core.Path.{◌≡◌, refl, sym, ap, ap₂, ◌∙◌}
use mathlib.Core.Bool.{Bool, true, false}
use mathlib.Core.List.{List}
use Prim.Native.Nat.{ℕ}
use Rattle.octets.proofs.Every.{either, never_both}
use Rattle.forms.specs.Order.{demand}
use Rattle.forms.proofs.Demands.{demanded}
use Rattle.dates.specs.Notice.{is_days}
use Rattle.forms.specs.Identifiers.{is_cell_name}
use Rattle.forms.specs.Refusals.{by}
use Rattle.forms.specs.declared.refusals.Refusal.{Refusal}
use Rattle.tenants.specs.declared.Held.{Held}
use Rattle.tenants.specs.declared.Setting.{Setting}
use Rattle.tenants.specs.Cells.{cell_of}
use Rattle.tenants.specs.Rules.{
  Own,
  Change,
  enters,
  withdraws,
  sets,
  nothing,
  refuses,
  is_tenant,
  is_held,
  is_some,
  names_none,
  entering,
  withdrawing,
  setting_days,
}
use Rattle.tenants.specs.Calls.{Call, enter, withdraw, set_days, ask_edition, ask_producer, issue, check, change_of}
use Rattle.tenants.specs.Alone.{after}
use Rattle.tenants.specs.Branches.{changes_cells, as_kept}
use Rattle.tenants.specs.Together.{BookRecord, Book, cells_of, no_setting, setting_of, list_of, own_of, changed}
use Rattle.tenants.proofs.Ordered.{equal_or_not}
use Rattle.tenants.proofs.Allowed.{Allowed, allowed, has_room}
use Rattle.tenants.proofs.Goodness.{Good}
use Rattle.tenants.proofs.Kept.{kept_of, own_kept, none_stays, list_stays, keeper_none}
use Rattle.tenants.proofs.Apart.{kept_after, other_after}

-- a change that leaves the cells, and one that leaves the setting
abbrev LeavesCells : Change → Type 0
LeavesCells (enters cell) = ⊥
LeavesCells (withdraws name) = ⊥
LeavesCells (sets days) = Unit {0}
LeavesCells nothing = Unit {0}
LeavesCells (refuses r) = Unit {0}

abbrev LeavesSetting : Change → Type 0
LeavesSetting (enters cell) = Unit {0}
LeavesSetting (withdraws name) = Unit {0}
LeavesSetting (sets days) = ⊥
LeavesSetting nothing = Unit {0}
LeavesSetting (refuses r) = Unit {0}

settled : (test : Bool) (r : Refusal) (next : Change) → LeavesSetting next → LeavesSetting (demand test (refuses r) next)
settled test r next ok = demanded LeavesSetting test (refuses r) next tt (λ _. ok)

module _ (t : ℕ) where
  records_stay : (book : Book) (change : Change) → LeavesCells change → (changed t change book).records ≡ book.records
  records_stay book (enters cell) not = absurd not
  records_stay book (withdraws name) not = absurd not
  records_stay book (sets days) ok = refl
  records_stay book nothing ok = refl
  records_stay book (refuses r) ok = refl

-- only enter and withdraw change cells, and they change nothing else
module _ (t : ℕ) (own : Own) where
  leaves_cells : (call : Call) → changes_cells call ≡ false → LeavesCells (change_of t call own)
  unfolding setting_days
  leaves_cells (enter cell) not = absurd (never_both true not refl)
  leaves_cells (withdraw name) not = absurd (never_both true not refl)
  leaves_cells (set_days days) not =
      demanded LeavesCells (is_tenant t) (refuses (by 102)) (demand (is_days days) (refuses (by 103)) (sets days)) tt
      (λ _. demanded LeavesCells (is_days days) (refuses (by 103)) (sets days) tt (λ _. tt))
  leaves_cells (ask_edition name) not = tt
  leaves_cells (ask_producer producer) not = tt
  leaves_cells (issue register name expiry level permit room) not = tt
  leaves_cells (check hw today line) not = tt

  -- a branch changes no cells
  branch_leaves : (change : Change) → Allowed t own change → names_none own.setting ≡ false → LeavesCells change
  branch_leaves (enters cell) ok branch = never_both (names_none own.setting) branch ok.1.1.0
  branch_leaves (withdraws name) ok branch = never_both (names_none own.setting) branch ok.1.1.0
  branch_leaves (sets days) ok branch = tt
  branch_leaves nothing ok branch = tt
  branch_leaves (refuses r) ok branch = tt

  leaves_setting : (call : Call) → changes_cells call ≡ true → LeavesSetting (change_of t call own)
  unfolding entering withdrawing
  leaves_setting (enter cell) does =
      let new : Change = demand (has_room cell own) (refuses (by 105)) (enters cell) in
      let keeps : Change = demand (names_none own.setting) (refuses (by 111)) new in
      settled (is_tenant t) (by 102) (demand (is_held cell) (refuses (by 103)) keeps)
      (settled (is_held cell) (by 103) keeps (settled (names_none own.setting) (by 111) new (settled (has_room cell own) (by 105) (enters cell) tt)))
  leaves_setting (withdraw name) does =
      let held : Bool = is_some (cell_of name own.cells) in
      let gone : Change = demand held (refuses (by 104)) (withdraws name) in
      let keeps : Change = demand (names_none own.setting) (refuses (by 111)) gone in
      settled (is_tenant t) (by 102) (demand (is_cell_name name) (refuses (by 103)) keeps)
      (settled (is_cell_name name) (by 103) keeps (settled (names_none own.setting) (by 111) gone (settled held (by 104) (withdraws name) tt)))
  leaves_setting (set_days days) not = absurd (never_both false refl not)
  leaves_setting (ask_edition name) not = tt
  leaves_setting (ask_producer producer) not = tt
  leaves_setting (issue register name expiry level permit room) not = tt
  leaves_setting (check hw today line) not = tt

-- the setting of one and the cells of another
abbrev joined : Own → Own → Own
joined own other = record { setting = own.setting; cells = other.cells }

-- what two that agree on it have after a change
after_leaves_cells : (change : Change) (own other : Own) → own.setting ≡ other.setting → LeavesCells change
    → joined (after change own) other ≡ after change (joined other other)
after_leaves_cells (enters cell) own other same not = absurd not
after_leaves_cells (withdraws name) own other same not = absurd not
after_leaves_cells (sets days) own other same ok =
    ap (λ (s : Setting). after (sets days) (record { setting = s; cells = other.cells })) same
after_leaves_cells nothing own other same ok = ap (λ (s : Setting). record { setting = s; cells = other.cells }) same
after_leaves_cells (refuses r) own other same ok = ap (λ (s : Setting). record { setting = s; cells = other.cells }) same

after_leaves_setting : (change : Change) (own keeper : Own) → own.cells ≡ keeper.cells → LeavesSetting change
    → joined own (after change keeper) ≡ after change own
after_leaves_setting (enters cell) own keeper same ok = ap (λ (l : List Held). after (enters cell) (record { setting = own.setting; cells = l })) (sym same)
after_leaves_setting (withdraws name) own keeper same ok = ap (λ (l : List Held). after (withdraws name) (record { setting = own.setting; cells = l })) (sym same)
after_leaves_setting (sets days) own keeper same not = absurd not
after_leaves_setting nothing own keeper same ok = ap (λ (l : List Held). record { setting = own.setting; cells = l }) (sym same)
after_leaves_setting (refuses r) own keeper same ok = ap (λ (l : List Held). record { setting = own.setting; cells = l }) (sym same)

-- what enter and withdraw change goes by the quota, by whether it is a branch, and by the cells
module _ (t : ℕ) (own other : Own) (quota : own.setting.quota ≡ other.setting.quota)
    (none : names_none own.setting ≡ names_none other.setting) (cells : own.cells ≡ other.cells) where
  pub same_cell_change : (call : Call) → changes_cells call ≡ true → change_of t call own ≡ change_of t call other
  unfolding entering withdrawing
  same_cell_change (enter cell) does = cc
  same_cell_change (withdraw name) does = cc
  same_cell_change (set_days days) not = absurd (never_both false refl not)
  same_cell_change (ask_edition name) not = refl
  same_cell_change (ask_producer producer) not = refl
  same_cell_change (issue register name expiry level permit room) not = refl
  same_cell_change (check hw today line) not = refl

module _ (book : Book) (good : Good book) where
  -- the book after tenant u's call
  abbrev called : ℕ → Call → Book
  called u call = changed u (change_of u call (own_of u book)) book

  -- its own view of a book: its setting, and the cells that the keeper of its list has
  view : (t : ℕ) (b : Book) (list : ℕ) → list_of t b ≡ list → own_of t b ≡ joined (kept_of t b) (kept_of list b)
  unfolding own_of
  view t b list is = ap (λ (u : ℕ). record { setting = setting_of t b; cells = cells_of u b.records }) is

  view_after : (t u : ℕ) (call : Call) → own_of t (called u call) ≡ joined (kept_of t (called u call)) (kept_of (list_of t book) (called u call))
  view_after t u call = view t (called u call) (list_of t book) (list_stays u book t (change_of u call (own_of u book)))

  -- a tenant's call works on what is its own as on one list
  pub own_after : (t : ℕ) (call : Call) → own_of t (called t call) ≡ after (change_of t call (own_of t book)) (own_of t book)
  unfolding own_of
  own_after t call = either (names_none (setting_of t book)) keeper branch
    where
      change : Change
      change = change_of t call (own_of t book)

      keeper : names_none (setting_of t book) ≡ true → own_of t (called t call) ≡ after change (own_of t book)
      keeper none =
          own_kept t (called t call) (none_stays t book t change ∙ none)
          ∙ kept_after t call book good
          ∙ ap (after change) (sym (own_kept t book none))

      branch : names_none (setting_of t book) ≡ false → own_of t (called t call) ≡ after change (own_of t book)
      branch is =
          let leaves : LeavesCells change = branch_leaves t (own_of t book) change (allowed t (own_of t book) call) is in
          view_after t t call
          ∙ ap₂ (λ (o : Own) (r : List BookRecord). record { setting = o.setting; cells = cells_of (list_of t book) r })
          (kept_after t call book good) (records_stay t book change leaves)
          ∙ after_leaves_cells change (kept_of t book) (own_of t book) refl leaves

  -- a call of another leaves it, where that is not the keeper of its list, or the call changes no cells
  pub own_stays : (t u : ℕ) (call : Call) → (t ≡ u → ⊥) → (list_of t book ≡ u → ⊥) → own_of t (called u call) ≡ own_of t book
  own_stays t u call apart other =
      view_after t u call
      ∙ ap₂ joined (other_after u t call book apart) (other_after u (list_of t book) call book other)
      ∙ sym (view t book (list_of t book) refl)

  pub own_left : (t u : ℕ) (call : Call) → (t ≡ u → ⊥) → changes_cells call ≡ false → own_of t (called u call) ≡ own_of t book
  own_left t u call apart not =
      view_after t u call
      ∙ ap₂ (λ (o : Own) (r : List BookRecord). record { setting = o.setting; cells = cells_of (list_of t book) r })
      (other_after u t call book apart)
      (records_stay u book (change_of u call (own_of u book)) (leaves_cells u (own_of u book) call not))
      ∙ sym (view t book (list_of t book) refl)

  -- a branch's call changes nobody's cells
  pub branch_leaves_cells : (t : ℕ) (call : Call) → names_none (setting_of t book) ≡ false → (called t call).records ≡ book.records
  unfolding own_of
  branch_leaves_cells t call branch =
      let change : Change = change_of t call (own_of t book) in
      records_stay t book change (branch_leaves t (own_of t book) change (allowed t (own_of t book) call) branch)

  -- whoever reads a list sees what its keeper's enter and withdraw change
  pub reader_after : (t u : ℕ) (call : Call) → list_of t book ≡ u → changes_cells call ≡ true
      → own_of t (called u call) ≡ after (change_of u call (own_of u book)) (own_of t book)
  unfolding own_of
  reader_after t u call list does =
      equal_or_not t u
      (λ self. rw self (own_after u call))
      (λ apart. view_after t u call
      ∙ ap₂ joined (other_after u t call book apart) (ap (λ (l : ℕ). kept_of l (called u call)) list ∙ kept_after u call book good)
      ∙ after_leaves_setting (change_of u call (own_of u book)) (own_of t book) (kept_of u book)
      (ap (λ (l : ℕ). cells_of l book.records) list) (leaves_setting u (own_of u book) call does))

  -- a branch does so as on one list with the principal's quota
  pub branch_after : (t u : ℕ) (call : Call) → (t ≡ u → ⊥) → list_of t book ≡ u → changes_cells call ≡ true
      → own_of t (called u call) ≡ after (change_of u call (as_kept (setting_of u book).quota (own_of t book))) (own_of t book)
  unfolding own_of names_none
  branch_after t u call apart list does =
      reader_after t u call list does
      ∙ ap (λ (c : Change). after c (own_of t book))
      (same_cell_change u (own_of u book) (as_kept (setting_of u book).quota (own_of t book)) refl keeps cells call does)
    where
      none : names_none (setting_of u book) ≡ true
      none = keeper_none t u book good apart list

      keeps : names_none (setting_of u book) ≡ names_none no_setting
      keeps = none

      cells : (own_of u book).cells ≡ (own_of t book).cells
      cells = ap (λ (o : Own). o.cells) (own_kept u book none) ∙ ap (λ (l : ℕ). cells_of l book.records) (sym list)
