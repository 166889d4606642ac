-- How many cells a list has after one is entered or withdrawn.
-- Assumes nothing.
use mathlib.Core.Path.{◌≡◌, refl, sym, ap, ◌∙◌}
use mathlib.Core.Bool.{true, false, ◌||◌}
use mathlib.Core.List.{List, [], ◌∷◌}
use mathlib.Core.Option.{none}
use Prim.Native.Nat.{ℕ, suc, ◌≤◌, ◌<◌}
use native.Mathlib.Omega.{arith}
use borrow.Author.Tests.{ltb-true}
use lib.Dec.{ltb}
use lib.ListN.{length}
use Rattle.octets.proofs.Every.{either}
use Rattle.tenants.specs.declared.Held.{Held}
use Rattle.tenants.specs.Cells.{entered, withdrawn, cell_of}
use Rattle.tenants.specs.Rules.{is_some}
use Rattle.tenants.proofs.Ordered.{Sorted, above_lower, entered_cases, withdrawn_cases, found_later, absent_above}

module _ (c : Held) where
  -- a new cell makes the list one longer at most
  entered_longer : (cells : List Held) → length (entered c cells) ≤ suc (length cells)
  unfolding entered
  entered_longer [] = omega arith
  entered_longer (d ∷ cells) =
      entered_cases c d cells (λ (l : List Held). length l ≤ suc (suc (length cells)))
      (λ _. omega arith) (λ _. omega arith) (λ _. omega (arith, entered_longer cells))

  -- a held name is replaced
  entered_replaces : (cells : List Held) → Sorted cells → is_some (cell_of c.name cells) ≡ true → length (entered c cells) ≡ length cells
  unfolding entered cell_of
  entered_replaces [] sorted held = cc
  entered_replaces (d ∷ cells) sorted held =
      entered_cases c d cells (λ (l : List Held). length l ≡ suc (length cells))
      (λ m.
      let absent : cell_of c.name (d ∷ cells) ≡ none
      = absent_above c.name (d ∷ cells) (m, above_lower c.name d.name cells (omega arith) sorted.0) in
      let no : false ≡ true = ap is_some (sym absent) ∙ held in
      cc)
      (λ _. refl)
      (λ m. ap suc (entered_replaces cells sorted.1 (ap is_some (sym (found_later c.name d cells (λ e. omega arith))) ∙ held)))

  -- a held name, or room in the quota: either way the cells are within it afterwards
  pub entered-within : (cells : List Held) (quota : ℕ) → Sorted cells → length cells ≤ quota
      → (is_some (cell_of c.name cells) || ltb (length cells) quota) ≡ true → length (entered c cells) ≤ quota
  entered-within cells quota sorted within room =
      either (is_some (cell_of c.name cells))
      (λ held. rw (entered_replaces cells sorted held) within)
      (λ new. omega (arith, entered_longer cells, ltb-true (length cells) quota (rw new at room)))

module _ (name : ℕ) where
  pub withdrawn-most : (cells : List Held) → length (withdrawn name cells) ≤ length cells
  unfolding withdrawn
  withdrawn-most [] = omega arith
  withdrawn-most (d ∷ cells) =
      withdrawn_cases name d cells (λ (l : List Held). length l ≤ suc (length cells))
      (λ _. omega arith) (λ _. omega (arith, withdrawn-most cells))

  -- a held name leaves room
  pub withdrawn_fewer : (cells : List Held) → is_some (cell_of name cells) ≡ true → length (withdrawn name cells) < length cells
  unfolding withdrawn cell_of
  withdrawn_fewer [] held = let no : ◌≡◌ {A = ℕ} 0 1 = cc in absurd (omega arith)
  withdrawn_fewer (d ∷ cells) held =
      withdrawn_cases name d cells (λ (l : List Held). length l < suc (length cells))
      (λ _. omega arith)
      (λ later. omega (arith, withdrawn_fewer cells (ap is_some (sym (found_later name d cells later)) ∙ held)))
