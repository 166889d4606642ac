-- `octets::numbers::four_bytes` meets its contract: two numbers side by side make one. Assumes nothing.
use mathlib.Core.Path.{sym}
use Rattle.octets.proofs.Places.{number_join}
use Rattle.octets.proofs.numbers.four_bytes.Goals as goal

pub returns : goal.returns
returns c = rw (c.two_bytes.ensures, c.two_bytes-2.ensures) (sym (number_join 2 2 _ _ c.requires))
