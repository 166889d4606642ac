-- `text::writing::width` meets its contract. The loop's invariant: n, one of which is of the rest, and the digits of the rest make the width.
-- Assumes nothing.
use Rattle.std.proofs.Common.{◌≡◌, suc, ◌+◌, ◌-◌, ◌^◌, ◌<◌, ◌≤◌}
use Rattle.text.specs.Texts.{width_up_to, width}
use Rattle.text.proofs.writing.width.Given as goal

abbrev pub invariant-loop-rest : goal.invariant-loop-rest
invariant-loop-rest l = (l.n ≤ 20) × (l.rest < 10 ^ suc (20 - l.n)) × (l.n + width_up_to (20 - l.n) l.rest ≡ suc (width l.x))

abbrev pub decreases-loop-rest : goal.decreases-loop-rest
decreases-loop-rest l = l.rest
