-- `mending::walking::clean_run` meets its contract. The invariant: so many clean records were passed.
-- Assumes nothing.
use Rattle.std.proofs.Common.{◌-◌, ◌≤◌, length}
use Rattle.mending.specs.Walking.{Cleans}
use Rattle.mending.proofs.walking.clean_run.Given as goal

abbrev pub invariant-loop-n : goal.invariant-loop-n
invariant-loop-n l = (l.end ≤ length l.file) × Cleans l.file l.place l.lines l.end

abbrev pub decreases-loop-n : goal.decreases-loop-n
decreases-loop-n l = length l.file - l.end
