-- `product_row::name_and_date` meets its contract.
-- Assumes nothing.
use native.Mathlib.Omega.{arith}
use Rattle.product_row.specs.Fields.{is_cell_file}
use Rattle.product_row.proofs.FieldLists.{more_fields}
use Rattle.product_row.proofs.TakenRows.{left_after}
use Rattle.product_row.proofs.name_and_date.Goals as goal

pub date-requires : goal.date-requires
date-requires c =
    more_fields _ _ (omega (arith, c.requires, left_after is_cell_file c.args.line.now 0 _ c.in_ok-date_at.ensures (omega (arith, c.requires))))
