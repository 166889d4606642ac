-- `octets::padding::unpad32` meets its contract: the padding is tested as one number. Assumes nothing.
use mathlib.Core.Path.{sym}
use native.Mathlib.Omega.{arith}
use Rattle.octets.specs.Numbers.{value}
use Rattle.octets.proofs.Pads.{unpad-right, unpad-wrong}
use Rattle.octets.proofs.padding.unpad32.Goals as goal

pub returns-then-block-eq67372036 : goal.returns-then-block-eq67372036
unfolding value
returns-then-block-eq67372036 c = sym (unpad-right 4 (omega arith) _ c.if-block-eq67372036.true)

pub returns-else-block-eq67372036 : goal.returns-else-block-eq67372036
unfolding value
returns-else-block-eq67372036 c = sym (unpad-wrong 4 (omega arith) _ c.if-block-eq67372036.false)
