-- `octets::numbers::lies_within` meets its contract, with no sum that could wrap. Assumes nothing.
use Rattle.octets.proofs.Places.{room, no_room}
use Rattle.octets.proofs.numbers.lies_within.Goals as goal

pub returns-then-at-s : goal.returns-then-at-s
returns-then-at-s c = room _ _ _ c.if-at-s.true

pub returns-else-at-s : goal.returns-else-at-s
returns-else-at-s c = no_room _ _ _ c.if-at-s.false
