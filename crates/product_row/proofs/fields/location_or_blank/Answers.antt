-- `product_row::fields::location_or_blank` meets its contract.
-- Assumes nothing.
use Prim.Native.Nat.{◌+◌, ◌<◌}
use lib.ListN.{length}
use Rattle.product_row.specs.Taking.{field_ends}
use Rattle.product_row.proofs.DigitPlaces.{inside, end_after, end_inside}
use Rattle.product_row.proofs.LocationFields.{volume_ended}
use Rattle.product_row.proofs.fields.location_or_blank.Goals as goal
use Rattle.product_row.proofs.fields.location_or_blank.Goals.{Else-line-at-ne77}

-- a comma ends the field, and `M` is not it
ended_next : (x : Else-line-at-ne77) → let args = x.args in field_ends args.line.now (args.at + 1) < length args.line.now
ended_next x = volume_ended _ _ x.requires x.if-line-at-eq44.false

pub bounds-line-end : goal.bounds-line-end
bounds-line-end c = end_inside _ _ (ended_next (goal.at.bounds-line-end c).Else-line-at-ne77) _ c.digits_end-end.ensures

pub overflow_sub-end : goal.overflow_sub-end
overflow_sub-end c = end_after _ _ (ended_next (goal.at.overflow_sub-end c).Else-line-at-ne77) _ c.digits_end-end.ensures

pub bounds-line-at-3 : goal.bounds-line-at-3
bounds-line-at-3 c = inside _ _ (ended_next (goal.at.bounds-line-at-3 c).Else-line-at-ne77)
