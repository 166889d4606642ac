-- `text::characters::is_name_character` meets its contract. Assumes nothing.
use Rattle.text.specs.Characters.{is_name_character}
use Rattle.text.proofs.characters.is_name_character.Goals as goal

pub returns : goal.returns
unfolding is_name_character
returns c = c.is_digit_or_capital.ensures
