-- `cell_opening::open_cell_file` meets its contract: what is asked of the values comes first, in its order.
use Rattle.std.proofs.Common.{arith}
use Rattle.cell_opening.proofs.Openings.{form_is, by_keys, by_keys_answered}
use Rattle.cell_opening.proofs.open_cell_file.Goals as goal

pub returns : goal.returns
returns c =
    let args = c.args in
    by_keys_answered _ _ _ _ _
    (by_keys args.file.now args.one args.two args.crc _ (omega arith) (omega arith) (omega arith) (omega arith) (form_is args.file.now (omega arith) (omega arith)))
    c.open_by.ensures
