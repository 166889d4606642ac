-- `text::reading::decimal_at` meets its contract, which is that of either base. Assumes nothing.
use Rattle.text.specs.Bases.{number_at}
use Rattle.text.specs.Texts.{decimal_at}
use Rattle.text.proofs.reading.decimal_at.Goals as goal

pub returns : goal.returns
unfolding number_at decimal_at
returns c = c.number_at.ensures
