-- `product_row::read_row` meets its contract.
-- Assumes nothing.
use mathlib.Core.Path.{◌∙◌}
use Rattle.product_row.proofs.Rows.{too_few, too_many, no_start}
use Rattle.product_row.proofs.read_row.Goals as goal

pub returns-then-n-lt15 : goal.returns-then-n-lt15
returns-then-n-lt15 c = too_few _ _ c.commas-n.ensures c.if-n-lt15.true

pub returns-then-n-gt35 : goal.returns-then-n-gt35
returns-then-n-gt35 c = too_many _ _ c.commas-n.ensures c.if-n-gt35.true

pub returns-in_err-start : goal.returns-in_err-start
returns-in_err-start c =
    c.from_residual.ensures ∙ no_start _ _ c.commas-n.ensures c.if-n-lt15.false c.if-n-gt35.false c.in_err-start.ensures
