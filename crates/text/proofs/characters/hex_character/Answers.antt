-- `text::characters::hex_character` meets its contract. Assumes nothing.
use Rattle.std.proofs.Common.{le-ltb, lt-ltb}
use Rattle.text.specs.Characters.{hex_character}
use Rattle.text.proofs.characters.hex_character.Goals as goal

pub returns-then-low-lt10 : goal.returns-then-low-lt10
unfolding hex_character
returns-then-low-lt10 c = rw (lt-ltb _ _ c.if-low-lt10.true)

pub returns-else-low-lt10 : goal.returns-else-low-lt10
unfolding hex_character
returns-else-low-lt10 c = rw (le-ltb _ _ c.if-low-lt10.false)
