-- `asking::ask_edition` meets its contract: the cell that the search finds is the tenant's. The check finds the refusals by itself.
-- Assumes nothing.
use mathlib.Core.Path.{sym, ◌∙◌}
use borrow.Author.Rules.{rules}
use Rattle.std.proofs.lemmas.Result.{err_from_is_err_and}
use Rattle.tenants.proofs.Ranges.{tenant_is}
use Rattle.asking.proofs.AnswerRules.{judged_undamaged, finds_own, edition_found, edition_refused, edition-ruled, asking-named}
use Rattle.asking.proofs.ask_edition.Goals as goal

pub returns-in_err-cell : goal.returns-in_err-cell
returns-in_err-cell c =
    let so = sym c.judge.ensures ∙ c.in-Some.is in
    let told = sym (c.ok_or.ensures.value ∙ finds_own _ _ _ _ so (search rules) _ c.held.ensures) ∙ c.in_err-cell.was in
    let p = err_from_is_err_and c.from_residual.result c.from_residual.ensures.1 in
    rw (p.1, p.2)
    (sym
    (edition-ruled _ _ _ (judged_undamaged _ _ _ so)
    ∙ asking-named _ _ _ (tenant_is _ c.if-tenant-gt15.false) (sym c.is_cell_name.ensures ∙ c.if-not-is_cell_name.false)
    ∙ edition_refused _ _ told))

pub returns : goal.returns
returns c =
    let so = sym c.judge.ensures ∙ c.in-Some.is in
    let told = sym (c.ok_or.ensures.value ∙ finds_own _ _ _ _ so (search rules) _ c.held.ensures) ∙ c.in_ok-cell.was in
    sym
    (edition-ruled _ _ _ (judged_undamaged _ _ _ so)
    ∙ asking-named _ _ _ (tenant_is _ c.if-tenant-gt15.false) (sym c.is_cell_name.ensures ∙ c.if-not-is_cell_name.false)
    ∙ edition_found _ _ told)
