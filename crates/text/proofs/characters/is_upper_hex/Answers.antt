-- `text::characters::is_upper_hex` meets its contract. Assumes nothing.
use Rattle.text.specs.Characters.{is_upper_hex}
use Rattle.text.proofs.characters.is_upper_hex.Goals as goal

pub returns : goal.returns
unfolding is_upper_hex
returns c = c.is_digit_or_capital.ensures
