-- `octets::numbers::one_byte` meets its contract. Assumes nothing.
use mathlib.Core.Path.{sym}
use Rattle.octets.proofs.Places.{number_one}
use Rattle.octets.proofs.numbers.one_byte.Goals as goal

pub returns : goal.returns
returns c = sym (number_one _ _ c.requires)
