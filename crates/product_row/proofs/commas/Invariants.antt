-- `product_row::commas` meets its contract. The invariant: the commas counted and those that are left are all commas.
-- Assumes nothing.
use Rattle.std.proofs.Common.{◌≡◌, ◌+◌, ◌≤◌, ◌==◌, length, count_by}
use Rattle.product_row.proofs.commas.Given as goal

abbrev pub invariant-loop-piece : goal.invariant-loop-piece
invariant-loop-piece l =
    (l.n + length l.piece-iterator.rest.now ≤ length l.line)
    × (l.n + count_by (λ c. c == 44) l.piece-iterator.rest.now ≡ count_by (λ c. c == 44) l.line)
