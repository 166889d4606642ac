-- `octets::padding::unpad40` meets its contract: the padding is tested as one number. Assumes nothing.
use mathlib.Core.Path.{sym}
use native.Mathlib.Omega.{arith}
use Rattle.octets.specs.Numbers.{value}
use Rattle.octets.proofs.Pads.{unpad-right, unpad-wrong}
use Rattle.octets.proofs.padding.unpad40.Goals as goal

pub returns-then-block-eq197379 : goal.returns-then-block-eq197379
unfolding value
returns-then-block-eq197379 c = sym (unpad-right 5 (omega arith) _ c.if-block-eq197379.true)

pub returns-else-block-eq197379 : goal.returns-else-block-eq197379
unfolding value
returns-else-block-eq197379 c = sym (unpad-wrong 5 (omega arith) _ c.if-block-eq197379.false)
