-- `product_names::is_set` meets its contract.
-- Assumes nothing.
use Rattle.std.proofs.Common.{ℕ, eqb, get_or, ap, arith}
use Rattle.product_names.proofs.MarkLaws.{place_within}
use Rattle.product_names.proofs.is_set.Goals as goal

pub bounds-marks-mark_place : goal.bounds-marks-mark_place
bounds-marks-mark_place c = omega (arith, place_within c.args.factor c.args.name)

pub returns : goal.returns
returns c = ap (λ (n : ℕ). eqb (get_or c.args.marks.now n 0) 1) c.mark_place.ensures
