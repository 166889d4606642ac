-- `asking::issue_for` meets its contract: the cell is the tenant's own, and so are its last expiry and the Data Server ID.
-- Assumes nothing.
use mathlib.Core.Path.{sym, ap, ◌∙◌}
use borrow.Author.Rules.{rules}
use lib.ListN.{length}
use Rattle.std.proofs.lemmas.Result.{err_from_is_err_and}
use Rattle.forms.proofs.Outputs.{refused}
use Rattle.cell_permit.specs.CellPermit.{written_line}
use Rattle.tenants.specs.declared.Setting.{Setting}
use Rattle.tenants.specs.Rules.{line_cell}
use Rattle.layout.proofs.Indexed.{own_setting}
use Rattle.asking.proofs.AnswerRules.{answered_same, finds_own, line-absent, line-late, line-held}
use Rattle.asking.proofs.issue_for.Goals as goal

pub returns-in_err-held : goal.returns-in_err-held
returns-in_err-held c =
    let told = sym (c.ok_or.ensures.value ∙ finds_own _ _ _ _ c.requires.0 (search rules) _ c.held.ensures) ∙ c.in_err-held.was in
    let p = err_from_is_err_and c.from_residual.result c.from_residual.ensures.1 in
    rw (p.1, p.2) (line-absent _ _ _ _ _ _ _ _ told)

pub returns-then-not-in_time : goal.returns-then-not-in_time
returns-then-not-in_time c =
    let told = sym (c.ok_or.ensures.value ∙ finds_own _ _ _ _ c.requires.0 (search rules) _ c.held.ensures) ∙ c.in_ok-held.was in
    refused _ _ _ (line-late _ _ _ _ _ _ _ told (sym c.in_time.ensures ∙ c.if-not-in_time.true))

pub returns : goal.returns
returns c =
    let args = c.args in
    let order = args.order in
    let told = sym (c.ok_or.ensures.value ∙ finds_own _ _ _ _ c.requires.0 (search rules) _ c.held.ensures) ∙ c.in_ok-held.was in
    answered_same _ _ _ _ _
    (line-held _ _ _ _ _ _ _ told _ (own_setting args.book.now args.tenant c.requires.1) (sym c.in_time.ensures ∙ c.if-not-in_time.false)
    ∙ sym
    (ap (λ (own : Setting). written_line args.hw (line_cell own c.in_ok-held.held order.expiry order.level) (length args.out.now))
    c.setting_of.ensures))
    c.write_line.ensures
