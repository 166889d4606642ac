-- `octets::numbers::two_bytes` meets its contract: two numbers side by side make one. Assumes nothing.
use mathlib.Core.Path.{sym}
use Rattle.octets.proofs.Places.{number_join}
use Rattle.octets.proofs.numbers.two_bytes.Goals as goal

pub returns : goal.returns
returns c = rw (c.one_byte.ensures, c.one_byte-2.ensures) (sym (number_join 1 1 _ _ c.requires))
