-- `product_row::commas` meets its contract: there is one field more than commas.
-- Assumes nothing.
use native.Mathlib.Omega.{arith}
use Rattle.std.proofs.lemmas.Grind.{common_steps}
use Rattle.product_row.proofs.FieldLists.{fields_count}
use Rattle.product_row.proofs.commas.Goals as goal

pub returns : goal.returns
returns c = grind (arith, common_steps, fields_count c.args.line.now)
