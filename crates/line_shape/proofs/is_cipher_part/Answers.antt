-- `line_shape::is_cipher_part` meets its contract.
-- Assumes nothing.
use Rattle.line_shape.proofs.Clean.{clean_next, clean_end}
use Rattle.line_shape.proofs.is_cipher_part.Goals as goal

pub loop-c-preserved : goal.loop-c-preserved
loop-c-preserved c = clean_next _ _ _ _ c.loop-c.invariant c.loop-c-test.true _ c.no_hex-faults.ensures

pub returns : goal.returns
returns c = clean_end _ _ _ _ c.loop-c.invariant c.loop-c-test.false
