-- `cell_permit::comment_place` meets its contract. The edition has three digits at most.
-- Assumes nothing.
use native.Mathlib.Omega.{arith}
use Rattle.cell_permit.proofs.ReadFields.{edition_few}
use Rattle.cell_permit.proofs.comment_place.Goals as goal

pub overflow_add-result : goal.overflow_add-result
overflow_add-result c = omega (arith, edition_few c.args.line.now _ c.edition_length.ensures)
