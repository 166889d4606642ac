-- `product_names::block_at` meets its contract. The invariant is `Looked`, which each way round keeps by one of its laws.
-- Assumes nothing.
use Rattle.std.proofs.Common.{◌-◌, length}
use Rattle.product_names.proofs.BlockTurns.{Looked}
use Rattle.product_names.proofs.block_at.Given as goal

abbrev pub invariant-loop-at : goal.invariant-loop-at
invariant-loop-at l = Looked l.list l.place l.names l.marks l.count l.next l.at

abbrev pub decreases-loop-at : goal.decreases-loop-at
decreases-loop-at l = length l.list - l.at
