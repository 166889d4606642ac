-- `text::characters::is_digit` meets its contract. Assumes nothing.
use Rattle.text.specs.Characters.{is_digit}
use Rattle.text.proofs.characters.is_digit.Goals as goal

pub returns : goal.returns
unfolding is_digit
returns c = c.within.ensures
