-- `text::characters::digit_character` meets its contract. Assumes nothing.
use Rattle.std.proofs.Common.{rules}
use Rattle.text.specs.Characters.{digit_character}
use Rattle.text.proofs.characters.digit_character.Goals as goal

pub returns : goal.returns
unfolding digit_character
returns c = search rules
