-- `products::rows::read` meets its contract: what is known of all rows is carried from line to line.
-- Assumes nothing.
use Prim.Native.Nat.{◌-◌}
use lib.ListN.{length}
use Rattle.products.proofs.RowsPassed.{Passing}
use Rattle.products.proofs.rows.read.Given as goal

abbrev pub invariant-loop-at : goal.invariant-loop-at
invariant-loop-at l = Passing l.list l.first l.name l.at l.last l.rising l.own

abbrev pub decreases-loop-at : goal.decreases-loop-at
decreases-loop-at l = length l.list - l.at
