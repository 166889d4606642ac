-- `product_names::repeated_later` meets its contract. The invariant: the rows from the place on say what all say.
-- Assumes nothing.
use Rattle.std.proofs.Common.{sym, refl, ap, ◌∙◌, arith}
use Rattle.product_names.specs.Repeats.{repeats}
use Rattle.product_names.proofs.BlockTurns.{none_beyond}
use Rattle.product_names.proofs.repeated_later.Goals as goal

pub loop-place-init : goal.loop-place-init
loop-place-init c = refl

pub returns-in_default : goal.returns-in_default
returns-in_default c = sym c.in_default.ensures ∙ c.loop-place.invariant

pub loop-place-smaller : goal.loop-place-smaller
loop-place-smaller c = omega (arith, c.in-Some.ensures)

pub loop-place-preserved : goal.loop-place-preserved
loop-place-preserved c = sym c.in-Some.ensures.1.1 ∙ c.loop-place.invariant

pub returns : goal.returns
unfolding repeats
returns c =
    let now = c.loop-place in
    sym (ap repeats (none_beyond c.args.list.now now.place c.loop-place-test.false)) ∙ now.invariant
