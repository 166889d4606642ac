-- `judging::part_from` meets its contract. The invariant: the part is right so far, and which records are left.
-- Assumes nothing.
use mathlib.Core.Path.{◌≡◌}
use mathlib.Core.Bool.{true}
use Prim.Native.Nat.{◌-◌}
use Rattle.tenants.specs.Rules.{is_last}
use Rattle.judging.proofs.PartSteps.{PartLeft}
use Rattle.judging.proofs.part_from.Given as goal

abbrev pub invariant-loop-at : goal.invariant-loop-at
invariant-loop-at l = PartLeft l.book l.t l.first l.used l.name l.spare l.at × (is_last l.known ≡ true)

abbrev pub decreases-loop-at : goal.decreases-loop-at
decreases-loop-at l = l.used - l.at
