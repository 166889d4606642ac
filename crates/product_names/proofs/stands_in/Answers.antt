-- `product_names::stands_in` meets its contract. The invariant: what was found, or stands among the names that are left.
-- Assumes nothing.
use Rattle.std.proofs.Common.{refl, ◌∙◌, arith}
use Rattle.product_names.proofs.BlockLaws.{next_name, all_names}
use Rattle.product_names.proofs.stands_in.Goals as goal

pub loop-other-init : goal.loop-other-init
loop-other-init c = refl

pub loop-other-preserved : goal.loop-other-preserved
loop-other-preserved c =
    let args = c.args in
    let now = c.loop-other in
    next_name args.name args.names.now now.other-index now.found (omega arith) ∙ now.invariant

pub returns : goal.returns
returns c =
    let args = c.args in
    let now = c.loop-other in
    all_names args.name args.names.now now.other-index now.found (omega arith) ∙ now.invariant
