-- `text::reading::hex_at` meets its contract, which is that of either base. Assumes nothing.
use Rattle.text.specs.Bases.{number_at}
use Rattle.text.specs.Texts.{hex_at}
use Rattle.text.proofs.reading.hex_at.Goals as goal

pub returns : goal.returns
unfolding number_at hex_at
returns c = c.number_at.ensures
