-- `product_row::fields::fraction` meets its contract.
-- Assumes nothing.
use Rattle.product_row.proofs.DigitPlaces.{end_inside}
use Rattle.product_row.proofs.DegreeFields.{next_ended}
use Rattle.product_row.proofs.fields.fraction.Goals as goal

pub bounds-line-end : goal.bounds-line-end
bounds-line-end c = end_inside _ _ (next_ended _ _ c.requires c.if-line-at-eq44.false) _ c.digits_end-end.ensures
