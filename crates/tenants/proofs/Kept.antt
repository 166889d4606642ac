-- What a tenant keeps in the book: its setting, and the cells under its number. What a call of its changes goes by that alone, a branch's too.
-- Assumes nothing.
use mathlib.Core.Path.{◌≡◌, refl, sym, ap, ap₂, ◌∙◌}
use mathlib.Core.Bool.{true, false, cond}
use mathlib.Core.List.{List, [], ◌∷◌}
use Prim.Native.Nat.{ℕ, zero, suc, ◌-◌, ◌≤◌, ◌<◌}
use native.Mathlib.Omega.{arith}
use borrow.Author.Tests.{eqb-true, ltb-false, ltb-true}
use lib.Dec.{ltb, eqb}
use lib.ListN.{length, get_or, set, get_or-eq_default}
use Rattle.octets.proofs.Every.{and_first, and_second, either, never_both}
use Rattle.tenants.specs.declared.Held.{Held}
use Rattle.tenants.specs.declared.Setting.{Setting}
use Rattle.tenants.specs.Rules.{Own, Change, enters, withdraws, sets, nothing, refuses, names_none, entering, withdrawing, setting_days}
use Rattle.tenants.specs.Calls.{Call, enter, withdraw, set_days, ask_edition, ask_producer, issue, check, change_of}
use Rattle.tenants.specs.Alone.{with_days}
use Rattle.tenants.specs.Together.{Book, cells_of, no_setting, setting_of, list_of, own_of, changed, is_principal}
use Rattle.tenants.proofs.Goodness.{Good}

abbrev pub kept_of : ℕ → Book → Own
kept_of t book = record { setting = setting_of t book; cells = cells_of t book.records }

module _ (t : ℕ) (book : Book) where
  pub own_list : names_none (setting_of t book) ≡ true → list_of t book ≡ t
  unfolding list_of
  own_list none = rw none

  -- a tenant that is no branch reads what it keeps
  pub own_kept : names_none (setting_of t book) ≡ true → own_of t book ≡ kept_of t book
  unfolding own_of
  own_kept none = rw (own_list none)

-- cells decide only where no principal is named: a branch is refused before they are asked for
module _ (t : ℕ) (own other : Own) (setting : own.setting ≡ other.setting) (cells : names_none own.setting ≡ true → own.cells ≡ other.cells) where
  whole : names_none own.setting ≡ true → own ≡ other
  whole none = ap₂ (λ (s : Setting) (l : List Held). record { setting = s; cells = l }) setting (cells none)

  same_change : (call : Call) → change_of t call own ≡ change_of t call other
  unfolding entering withdrawing setting_days
  same_change (enter cell) =
      either (names_none own.setting) (λ none. ap (entering t cell) (whole none)) (λ branch. rw (branch, sym (ap names_none setting) ∙ branch))
  same_change (withdraw name) =
      either (names_none own.setting) (λ none. ap (withdrawing t name) (whole none)) (λ branch. rw (branch, sym (ap names_none setting) ∙ branch))
  same_change (set_days days) = refl
  same_change (ask_edition name) = refl
  same_change (ask_producer producer) = refl
  same_change (issue register name expiry level permit room) = refl
  same_change (check hw today line) = refl

-- what a call changes goes by what its tenant keeps
pub by_kept : (t : ℕ) (call : Call) (book : Book) → change_of t call (own_of t book) ≡ change_of t call (kept_of t book)
unfolding own_of
by_kept t call book = same_change t (own_of t book) (kept_of t book) refl (λ none. ap (λ (o : Own). o.cells) (own_kept t book none)) call

-- new warning days for tenant t leave all else of its setting, and all other settings
module _ (days : ℕ) (field : Setting → ℕ) (same : (s : Setting) → field (with_days days s) ≡ field s) where
  pub field_kept : (settings : List Setting) (t u : ℕ)
      → field (get_or (set settings t (with_days days (get_or settings t no_setting))) u no_setting) ≡ field (get_or settings u no_setting)
  field_kept [] t u = refl
  field_kept (s ∷ settings) zero zero = same s
  field_kept (s ∷ settings) zero (suc u) = refl
  field_kept (s ∷ settings) (suc t) zero = refl
  field_kept (s ∷ settings) (suc t) (suc u) = field_kept settings t u

-- no change is of a quota, or of whom a tenant names
module _ (t : ℕ) (book : Book) (u : ℕ) where
  pub quota_stays : (change : Change) → (setting_of u (changed t change book)).quota ≡ (setting_of u book).quota
  quota_stays (enters cell) = refl
  quota_stays (withdraws name) = refl
  quota_stays (sets days) = field_kept days (λ (s : Setting). s.quota) (λ s. refl) book.settings t u
  quota_stays nothing = refl
  quota_stays (refuses r) = refl

  principal_stays : (change : Change) → (setting_of u (changed t change book)).principal ≡ (setting_of u book).principal
  principal_stays (enters cell) = refl
  principal_stays (withdraws name) = refl
  principal_stays (sets days) = field_kept days (λ (s : Setting). s.principal) (λ s. refl) book.settings t u
  principal_stays nothing = refl
  principal_stays (refuses r) = refl

  pub none_stays : (change : Change) → names_none (setting_of u (changed t change book)) ≡ names_none (setting_of u book)
  unfolding names_none
  none_stays change = ap (λ (p : ℕ). eqb p 0) (principal_stays change)

  -- each tenant reads the list that it read
  pub list_stays : (change : Change) → list_of u (changed t change book) ≡ list_of u book
  unfolding list_of names_none
  list_stays change = ap (λ (p : ℕ). cond (eqb p 0) u (p - 1)) (principal_stays change)

-- a branch has no quota
pub quota_none : (t : ℕ) (book : Book) → is_principal book.settings t (setting_of t book) ≡ true → names_none (setting_of t book) ≡ false
    → ((setting_of t book).quota ≡ 0 → ⊥) → ⊥
unfolding is_principal
quota_none t book right branch more = more (eqb-true (setting_of t book).quota 0 (search (and_second, rw branch at right)))

-- of a good book a branch's principal keeps its own list
module _ (t : ℕ) (book : Book) (good : Good book) (branch : names_none (setting_of t book) ≡ false) where
  pub branch_below : t < 16
  unfolding names_none
  branch_below =
      either (ltb t 16) (λ low. ltb-true t 16 low)
      (λ high.
      let past : length book.settings ≤ t = omega (arith, good.sixteen, ltb-false t 16 high) in
      absurd (never_both (names_none (setting_of t book)) branch (ap names_none (get_or-eq_default book.settings no_setting past))))

  pub principal_none : names_none (setting_of (list_of t book) book) ≡ true
  unfolding list_of is_principal
  principal_none =
      let right : is_principal book.settings t (setting_of t book) ≡ true = good.named t branch_below in
      rw branch (search (and_first, and_second, rw branch at right))

-- and so does whoever keeps another's list
pub keeper_none : (t u : ℕ) (book : Book) → Good book → (t ≡ u → ⊥) → list_of t book ≡ u → names_none (setting_of u book) ≡ true
keeper_none t u book good apart list =
    either (names_none (setting_of t book))
    (λ none. absurd (apart (sym (own_list t book none) ∙ list)))
    (λ branch. rw list at (principal_none t book good branch))
