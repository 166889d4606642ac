-- `product_names::repeated` meets its contract: what the first block said, or what those after it say.
-- Assumes nothing.
use Rattle.std.proofs.Common.{sym, ap, ◌∙◌}
use Rattle.product_names.specs.Repeats.{repeats}
use Rattle.product_names.proofs.BlockTurns.{none_beyond}
use Rattle.product_names.proofs.repeated.Goals as goal

pub returns-then-list-first : goal.returns-then-list-first
unfolding repeats
returns-then-list-first c = let args = c.args in sym (ap repeats (none_beyond args.list.now args.first c.if-list-first.true))

pub returns-in_default : goal.returns-in_default
returns-in_default c = sym c.in_default.ensures

pub returns : goal.returns
returns c = c.repeated_later.ensures ∙ sym c.in-Some.ensures.1.1
