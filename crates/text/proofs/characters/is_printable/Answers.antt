-- `text::characters::is_printable` meets its contract. Assumes nothing.
use Rattle.text.specs.Characters.{is_printable}
use Rattle.text.proofs.characters.is_printable.Goals as goal

pub returns : goal.returns
unfolding is_printable
returns c = c.within.ensures
