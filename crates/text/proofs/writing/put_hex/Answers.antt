-- `text::writing::put_hex` meets its contract, which is that of either base. Assumes nothing.
use Rattle.text.proofs.writing.put_hex.Goals as goal

pub returns : goal.returns
returns c = c.put_number.ensures
