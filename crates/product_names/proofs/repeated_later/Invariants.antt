-- `product_names::repeated_later` meets its contract. The invariant: the rows from the place on say what all say.
-- Assumes nothing.
use Rattle.std.proofs.Common.{◌≡◌, ◌-◌, length}
use Rattle.product_names.specs.Repeats.{repeats, names_from}
use Rattle.product_names.proofs.repeated_later.Given as goal

abbrev pub invariant-loop-place : goal.invariant-loop-place
invariant-loop-place l = repeats (names_from l.list l.place) ≡ repeats (names_from l.list l.first)

abbrev pub decreases-loop-place : goal.decreases-loop-place
decreases-loop-place l = length l.list - l.place
