-- `product_names::mark` meets its contract. The invariant: the marks of the factors so far are set.
-- Assumes nothing.
use Rattle.std.proofs.Common.{◌≡◌, ℕ, List, take, fold}
use Rattle.product_names.specs.Marking.{factors, with_set}
use Rattle.product_names.proofs.mark.Given as goal

abbrev pub invariant-loop-factor : goal.invariant-loop-factor
invariant-loop-factor l = l.marks ≡ fold (λ (set : List ℕ) (factor : ℕ). with_set factor l.name set) l.initial.marks (take l.factor-index factors)
