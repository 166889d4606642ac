-- A call changes what the caller keeps in the book by the rules for one list, and nothing that another tenant keeps.
-- Assumes nothing.
use mathlib.Core.Path.{◌≡◌, refl, ap}
use mathlib.Core.List.{List}
use Prim.Native.Nat.{ℕ}
use native.Mathlib.Omega.{arith}
use lib.Seq.{get_or-set_same, get_or-set_other}
use Rattle.tenants.specs.declared.Held.{Held}
use Rattle.tenants.specs.declared.Setting.{Setting}
use Rattle.tenants.specs.Rules.{Own, Change, enters, withdraws, sets, nothing, refuses}
use Rattle.tenants.specs.Calls.{Call, change_of}
use Rattle.tenants.specs.Alone.{with_days, after}
use Rattle.tenants.specs.Together.{Book, no_setting, setting_of, cells_of, own_of, changed}
use Rattle.tenants.proofs.OwnCells.{cells_entered, cells_entered_other, cells_withdrawn, cells_withdrawn_other}
use Rattle.tenants.proofs.Ranges.{tenant_below, name_below, held_below}
use Rattle.tenants.proofs.Allowed.{Allowed, allowed}
use Rattle.tenants.proofs.Goodness.{Good}
use Rattle.tenants.proofs.Kept.{kept_of}

module _ (t : ℕ) (book : Book) where
  -- what tenant t keeps, with other cells or with another setting
  with_cells : List Held → Own
  with_cells cells = record { setting = setting_of t book; cells = cells }

  with_setting : Setting → Own
  with_setting setting = record { setting = setting; cells = cells_of t book.records }

  module _ (own : Own) where
    kept-changed : (change : Change) → Good book → Allowed t own change → kept_of t (changed t change book) ≡ after change (kept_of t book)
    unfolding with_cells with_setting
    kept-changed (enters cell) good ok =
        ap with_cells (cells_entered t cell (held_below cell ok.1.0) book.records good.sorted)
    kept-changed (withdraws name) good ok = ap with_cells (cells_withdrawn t name (name_below name ok.1.0) book.records)
    kept-changed (sets days) good ok =
        ap with_setting
        (get_or-set_same book.settings t (with_days days (setting_of t book)) no_setting (omega (arith, good.sixteen, tenant_below t ok.0)))
    kept-changed nothing good ok = refl
    kept-changed (refuses r) good ok = refl

    other-changed : (u : ℕ) (change : Change) → (t ≡ u → ⊥) → Allowed u own change → kept_of t (changed u change book) ≡ kept_of t book
    unfolding with_cells with_setting
    other-changed u (enters cell) apart ok =
        ap with_cells (cells_entered_other u cell (held_below cell ok.1.0) t apart book.records)
    other-changed u (withdraws name) apart ok = ap with_cells (cells_withdrawn_other u name (name_below name ok.1.0) t apart book.records)
    other-changed u (sets days) apart ok =
        ap with_setting (get_or-set_other book.settings u t (with_days days (setting_of u book)) no_setting apart)
    other-changed u nothing apart ok = refl
    other-changed u (refuses r) apart ok = refl

-- a call works on what the tenant keeps as on one list
pub kept_after : (t : ℕ) (call : Call) (book : Book) → Good book
    → kept_of t (changed t (change_of t call (own_of t book)) book) ≡ after (change_of t call (own_of t book)) (kept_of t book)
kept_after t call book good = kept-changed t book (own_of t book) (change_of t call (own_of t book)) good (allowed t (own_of t book) call)

-- and leaves what another keeps
pub other_after : (t u : ℕ) (call : Call) (book : Book) → (u ≡ t → ⊥)
    → kept_of u (changed t (change_of t call (own_of t book)) book) ≡ kept_of u book
other_after t u call book apart = other-changed u book (own_of t book) t (change_of t call (own_of t book)) apart (allowed t (own_of t book) call)
