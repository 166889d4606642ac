-- `product_names::stands_in` meets its contract. The invariant: what was found, or stands among the names that are left.
-- Assumes nothing.
use Rattle.std.proofs.Common.{◌≡◌, ◌||◌, drop}
use Rattle.product_names.specs.Repeats.{stands_in}
use Rattle.product_names.proofs.stands_in.Given as goal

abbrev pub invariant-loop-other : goal.invariant-loop-other
invariant-loop-other l = (l.found || stands_in l.name (drop l.other-index l.names)) ≡ stands_in l.name l.names
