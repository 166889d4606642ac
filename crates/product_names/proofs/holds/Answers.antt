-- `product_names::holds` meets its contract: a name that is not marked stands nowhere.
-- Assumes nothing.
use Rattle.std.proofs.Common.{sym, ◌∙◌}
use Rattle.product_names.proofs.MarkLaws.{unmarked}
use Rattle.product_names.proofs.holds.Goals as goal

pub returns-else-is_marked : goal.returns-else-is_marked
returns-else-is_marked c =
    c.if-is_marked.false ∙ sym (unmarked c.args.marks.now c.args.names.now c.requires c.args.name (sym c.is_marked.ensures ∙ c.if-is_marked.false))
