-- `line_shape::plain_length` meets its contract: an edition has three digits at most.
-- Assumes nothing.
use Rattle.std.proofs.Common.{rules}
use Rattle.cell_permit.proofs.ReadFields.{edition_few}
use Rattle.line_shape.proofs.plain_length.Goals as goal

pub overflow_add-result : goal.overflow_add-result
overflow_add-result c =
    let few = edition_few c.args.text.now c.edition_length.result c.edition_length.ensures in
    search rules
