-- `octets::numbers::bytes32` meets its contract. Assumes nothing.
use mathlib.Core.Path.{◌∙◌}
use Rattle.octets.proofs.Digits.{bytes_are_digits}
use Rattle.octets.proofs.numbers.bytes32.Goals as goal

pub returns : goal.returns
returns c = c.to_be_bytes.ensures ∙ bytes_are_digits 4 _
