-- `octets::numbers::bytes64` meets its contract. Assumes nothing.
use mathlib.Core.Path.{◌∙◌}
use Rattle.octets.proofs.Digits.{bytes_are_digits}
use Rattle.octets.proofs.numbers.bytes64.Goals as goal

pub returns : goal.returns
returns c = c.to_be_bytes.ensures ∙ bytes_are_digits 8 _
