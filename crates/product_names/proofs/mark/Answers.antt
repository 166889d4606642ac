-- `product_names::mark` meets its contract. The invariant: the marks of the factors so far are set.
-- Assumes nothing.
use Rattle.std.proofs.Common.{ℕ, List, fold, ap, ◌∙◌, arith}
use lib.Seq.{take_all}
use Rattle.product_names.specs.Marking.{factors, with_set, marked}
use Rattle.product_names.proofs.MarkLaws.{place_within}
use Rattle.product_names.proofs.mark.Goals as goal

pub bounds-marks-mark_place : goal.bounds-marks-mark_place
bounds-marks-mark_place c = rw c.mark_place.ensures (place_within _ _)

pub returns : goal.returns
unfolding marked
returns c =
    let all = take_all c.loop-factor.factor-index factors (omega arith) in
    c.loop-factor.invariant ∙ ap (fold (λ (set : List ℕ) (factor : ℕ). with_set factor c.args.name set) c.args.marks.now) all
