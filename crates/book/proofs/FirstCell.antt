-- The first cell that is entered in an opened book is one record.
-- Assumes nothing.
use mathlib.Core.Path.{◌≡◌, ap}
use mathlib.Core.Bool.{true}
use mathlib.Core.List.{List}
use Prim.Native.Nat.{ℕ, ◌<◌}
use native.Mathlib.Omega.{arith}
use borrow.Author.Tests.{lt-ltb}
use lib.ListN.{get_or}
use Rattle.octets.specs.Places.{number_at}
use Rattle.octets.proofs.Every.{either}
use Rattle.forms.specs.Output.{text}
use Rattle.tenants.specs.declared.Held.{Held}
use Rattle.tenants.specs.declared.Setting.{Setting}
use Rattle.tenants.specs.Cells.{entered, cell_of}
use Rattle.tenants.specs.Rules.{enters, is_tenant, is_held, names_none, entering}
use Rattle.tenants.specs.Calls.{enter}
use Rattle.tenants.specs.Together.{cells_of, no_setting, setting_of, own_of, changed, is_good}
use Rattle.tenants.proofs.Ranges.{tenant_below}
use Rattle.tenants.proofs.Goodness.{good_facts}
use Rattle.tenants.proofs.Kept.{quota_none}
use Rattle.tenants.proofs.KeptGood.{good_after}
use Rattle.layout.specs.Layout.{two, used_length, book_bytes}
use Rattle.layout.proofs.Each.{each_is}
use Rattle.layout.proofs.Fits.{book_fits}
use Rattle.layout.proofs.ReadBack.{used-back}
use Rattle.opening.specs.Opening.{first_setting, empty_book, opened}
use Rattle.opening.proofs.Opens.{opened-given, opens_empty}
use Rattle.changing.specs.Changing.{entry, bytes_after}

module _ (quotas ids principals : List ℕ) (t : ℕ) (cell : Held) (tenant : is_tenant t ≡ true) (roomy : 0 < get_or quotas t 0) (held : is_held cell ≡ true) where
  -- a tenant with a quota is no branch
  keeps : is_good (empty_book quotas ids principals) ≡ true → names_none (setting_of t (empty_book quotas ids principals)) ≡ true
  unfolding empty_book
  keeps good =
      let named = (good_facts (empty_book quotas ids principals) good).named t (tenant_below t tenant) in
      let is : setting_of t (empty_book quotas ids principals) ≡ first_setting quotas ids principals t
      = each_is (first_setting quotas ids principals) 16 t no_setting (tenant_below t tenant) in
      either (names_none (setting_of t (empty_book quotas ids principals)))
      (λ none. none)
      (λ branch. absurd (quota_none t (empty_book quotas ids principals) named branch (λ e. omega (arith, ap (λ (x : Setting). x.quota) is))))

  -- it is not refused
  first_enters : is_good (empty_book quotas ids principals) ≡ true → entering t cell (own_of t (empty_book quotas ids principals)) ≡ enters cell
  unfolding entering own_of empty_book cells_of cell_of
  first_enters good =
      rw (tenant, held, keeps good, each_is (first_setting quotas ids principals) 16 t no_setting (tenant_below t tenant), lt-ltb 0 (get_or quotas t 0) roomy)

  used_then : is_good (empty_book quotas ids principals) ≡ true
      → number_at 4 (book_bytes (changed t (enters cell) (empty_book quotas ids principals))) 1 ≡ used_length 1
  unfolding empty_book entered
  used_then good =
      used-back two (changed t (enters cell) (empty_book quotas ids principals))
      (book_fits (changed t (enters cell) (empty_book quotas ids principals))
      (rw (first_enters good) at (good_after t (enter cell) (empty_book quotas ids principals) good)))

  pub first_cell : (s book : List ℕ) → opened quotas ids principals s ≡ text book → number_at 4 (bytes_after t (entry book t cell) book) 1 ≡ used_length 1
  unfolding entry
  first_cell s book made =
      let empty = opens_empty quotas ids principals s book made in
      let good = (opened-given quotas ids principals s book made).0 in
      rw (empty.0, empty.1, first_enters good, empty.1) (used_then good)
