-- `octets::numbers::five_bytes` meets its contract: two numbers side by side make one. Assumes nothing.
use mathlib.Core.Path.{sym}
use Rattle.octets.proofs.Places.{number_join}
use Rattle.octets.proofs.numbers.five_bytes.Goals as goal

pub returns : goal.returns
returns c = rw (c.one_byte.ensures, c.four_bytes.ensures) (sym (number_join 1 4 _ _ c.requires))
