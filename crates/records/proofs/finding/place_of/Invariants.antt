-- `records::finding::place_of` meets its contract. The invariant: to halve what is left, from low to high, ends at the place.
-- Assumes nothing.
use Prim.Native.Nat.{◌-◌}
use Rattle.records.proofs.Searching.{Left}
use Rattle.records.proofs.finding.place_of.Given as goal

abbrev pub invariant-loop-low : goal.invariant-loop-low
invariant-loop-low l = Left l.book l.fn.among.first l.fn.among.past l.name l.low l.high

abbrev pub decreases-loop-low : goal.decreases-loop-low
decreases-loop-low l = l.high - l.low
