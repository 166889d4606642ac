-- `judging::parts_from` meets its contract. The invariant: the parts are right so far, and which tenants are left.
-- Assumes nothing.
use Rattle.judging.proofs.PartsSteps.{PartsLeft}
use Rattle.judging.proofs.parts_from.Given as goal

abbrev pub invariant-loop-t : goal.invariant-loop-t
invariant-loop-t l = PartsLeft l.book l.used l.from l.to l.first l.at l.t
