-- What is held under a name after entering and withdrawing.
-- Assumes nothing.
use mathlib.Core.Path.{◌≡◌, refl, sym, ◌∙◌}
use mathlib.Core.List.{List, [], ◌∷◌}
use mathlib.Core.Option.{none, some}
use Prim.Native.Nat.{ℕ}
use native.Mathlib.Omega.{arith}
use Rattle.tenants.specs.declared.Held.{Held}
use Rattle.tenants.specs.Cells.{entered, withdrawn, cell_of}
use Rattle.tenants.specs.OneList.{HeldAsEntered, OthersAfterEntering, NotHeldAfterwards, OthersAfterWithdrawing}
use Rattle.tenants.specs.Together.{cells_of}
use Rattle.tenants.proofs.Ordered.{Sorted, equal_or_not, entered_cases, withdrawn_cases, found_here, found_later, absent_above}
use Rattle.tenants.proofs.OwnCells.{own_sorted}
use Rattle.tenants.proofs.Goodness.{good_facts}

pub held_as_entered : HeldAsEntered
unfolding entered
held_as_entered cell [] = found_here cell.name cell [] refl
held_as_entered cell (d ∷ cells) =
    entered_cases cell d cells (λ (l : List Held). cell_of cell.name l ≡ some cell)
    (λ _. found_here cell.name cell (d ∷ cells) refl)
    (λ _. found_here cell.name cell cells refl)
    (λ m. found_later cell.name d (entered cell cells) (λ e. omega arith) ∙ held_as_entered cell cells)

-- the same in front of both
behind_both : (name : ℕ) (d : Held) (cells others : List Held) → cell_of name cells ≡ cell_of name others
    → cell_of name (d ∷ cells) ≡ cell_of name (d ∷ others)
behind_both name d cells others same =
    equal_or_not name d.name
    (λ it. found_here name d cells it ∙ sym (found_here name d others it))
    (λ no. found_later name d cells no ∙ same ∙ sym (found_later name d others no))

pub others_after-entering : OthersAfterEntering
unfolding entered
others_after-entering cell [] name other = found_later name cell [] other
others_after-entering cell (d ∷ cells) name other =
    entered_cases cell d cells (λ (l : List Held). cell_of name l ≡ cell_of name (d ∷ cells))
    (λ _. found_later name cell (d ∷ cells) other)
    (λ m. found_later name cell cells other ∙ sym (found_later name d cells (λ e. other (e ∙ sym m))))
    (λ _. behind_both name d (entered cell cells) cells (others_after-entering cell cells name other))

not_held : (name : ℕ) (cells : List Held) → Sorted cells → cell_of name (withdrawn name cells) ≡ none
unfolding withdrawn cell_of
not_held name [] sorted = refl
not_held name (d ∷ cells) sorted =
    withdrawn_cases name d cells (λ (l : List Held). cell_of name l ≡ none)
    (λ it. absent_above name cells (rw it sorted.0))
    (λ no. found_later name d (withdrawn name cells) no ∙ not_held name cells sorted.1)

pub not_held_afterwards : NotHeldAfterwards
not_held_afterwards book t name good =
    not_held name (cells_of t book.records) (own_sorted t book.records (good_facts book good).sorted)

pub others_after-withdrawing : OthersAfterWithdrawing
unfolding withdrawn
others_after-withdrawing [] gone name other = refl
others_after-withdrawing (d ∷ cells) gone name other =
    withdrawn_cases gone d cells (λ (l : List Held). cell_of name l ≡ cell_of name (d ∷ cells))
    (λ it. sym (found_later name d cells (λ e. other (e ∙ sym it))))
    (λ _. behind_both name d (withdrawn gone cells) cells (others_after-withdrawing cells gone name other))
