-- `line_shape::is_comment` meets its contract.
-- Assumes nothing.
use Rattle.text.specs.Characters.{is_printable}
use Rattle.line_shape.proofs.Clean.{Clean}
use Rattle.line_shape.proofs.is_comment.Given as goal

abbrev pub invariant-loop-c : goal.invariant-loop-c
invariant-loop-c l = Clean is_printable l.c-items l.c-index l.faults
