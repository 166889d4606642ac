-- `walking::walk` meets its contract. The invariant: the rest of the walk decides.
-- Assumes nothing.
use Rattle.walking.proofs.Stops.{Left}
use Rattle.walking.proofs.walk.Given as goal

abbrev pub invariant-loop-i : goal.invariant-loop-i
invariant-loop-i l = Left l.book l.producer l.fn.among.first l.fn.among.past l.i
