-- `line_shape::is_cipher_part` meets its contract.
-- Assumes nothing.
use Rattle.text.specs.Characters.{is_hex}
use Rattle.line_shape.proofs.Clean.{Clean}
use Rattle.line_shape.proofs.is_cipher_part.Given as goal

abbrev pub invariant-loop-c : goal.invariant-loop-c
invariant-loop-c l = Clean is_hex l.c-items l.c-index l.faults
