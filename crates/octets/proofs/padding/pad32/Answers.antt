-- `octets::padding::pad32` meets its contract: the block is a sum. Assumes nothing.
use native.Mathlib.Omega.{arith}
use Rattle.octets.specs.Numbers.{value}
use Rattle.octets.proofs.Pads.{pad_sum}
use Rattle.octets.proofs.padding.pad32.Goals as goal

pub returns : goal.returns
unfolding value
returns c = omega (arith, pad_sum 4 c.args.x)
