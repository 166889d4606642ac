-- `asking::ask_producer` meets its contract: the walk is through the tenant's own records. The check finds the refusals by itself.
-- Assumes nothing.
use mathlib.Core.Path.{sym, ap, ◌∙◌}
use Rattle.std.specs.Prelude.{Ok}
use Rattle.tenants.proofs.Ranges.{tenant_is}
use Rattle.walking.proofs.OwnWalk.{walks_own}
use Rattle.asking.proofs.AnswerRules.{judged_undamaged, holding-any}
use Rattle.asking.proofs.ask_producer.Goals as goal

pub returns : goal.returns
returns c =
    let so = sym c.judge.ensures ∙ c.in-Some.is in
    ap Ok (c.any_among.ensures ∙ walks_own _ _ _ _ so)
    ∙ sym
    (holding-any _ _ _ (judged_undamaged _ _ _ so) (tenant_is _ c.if-tenant-gt15.false)
    (sym c.is_producer.ensures ∙ c.if-not-is_producer.false))
