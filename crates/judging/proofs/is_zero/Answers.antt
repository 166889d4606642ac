-- `judging::is_zero` meets its contract. The invariant: which bytes are taken together, and which are left.
-- Assumes nothing.
use Rattle.judging.proofs.Zeros.{zeros_start, zeros-next, zeros_end}
use Rattle.judging.proofs.is_zero.Goals as goal

pub loop-b-init : goal.loop-b-init
loop-b-init c = zeros_start

pub loop-b-preserved : goal.loop-b-preserved
loop-b-preserved c = zeros-next c.loop-b.invariant c.loop-b-test.true

pub returns : goal.returns
returns c = zeros_end c.loop-b.invariant c.loop-b-test.false
