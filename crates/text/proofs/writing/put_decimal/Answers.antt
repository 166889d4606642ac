-- `text::writing::put_decimal` meets its contract, which is that of either base. Assumes nothing.
use Rattle.text.proofs.writing.put_decimal.Goals as goal

pub returns : goal.returns
returns c = c.put_number.ensures
