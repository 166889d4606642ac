-- `judging::is_zero` meets its contract. The invariant: which bytes are taken together, and which are left.
-- Assumes nothing.
use Rattle.judging.proofs.Zeros.{ZerosFrom}
use Rattle.judging.proofs.is_zero.Given as goal

abbrev pub invariant-loop-b : goal.invariant-loop-b
invariant-loop-b l = ZerosFrom l.s l.all l.b-index
