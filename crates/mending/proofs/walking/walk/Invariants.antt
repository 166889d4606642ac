-- `mending::walking::walk` meets its contract. The loop's invariant: what was given and what is left are all that the texts give.
-- The measure is what is left of the file. Assumes nothing.
use Rattle.std.proofs.Common.{◌+◌, ◌-◌, length}
use Rattle.mending.specs.Walking.{places_of}
use Rattle.mending.proofs.Walks.{Went}
use Rattle.mending.proofs.walking.walk.Given as goal

abbrev pub invariant-turns : goal.invariant-turns
invariant-turns l = Went l.file l.place (places_of l.initial.t) l.room l.initial.out l.initial.list l.t l.out l.list

abbrev pub decreases-turns : goal.decreases-turns
decreases-turns l = length l.file + 1 - l.t.place
