-- `line_shape::is_comment` meets its contract.
-- Assumes nothing.
use Rattle.text.specs.Characters.{is_printable}
use Rattle.line_shape.proofs.Clean.{clean_next, clean_end}
use Rattle.line_shape.proofs.is_comment.Goals as goal

pub loop-c-preserved : goal.loop-c-preserved
unfolding is_printable
loop-c-preserved c = clean_next _ _ _ _ c.loop-c.invariant c.loop-c-test.true _ c.outside-faults.ensures

pub returns : goal.returns
returns c = clean_end _ _ _ _ c.loop-c.invariant c.loop-c-test.false
