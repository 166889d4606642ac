-- `asking::issue` meets its contract: the user permit's refusal, or the line. The check finds the refusals before it by itself.
-- Assumes nothing.
use mathlib.Core.Path.{sym, ap, ◌∙◌}
use mathlib.Core.Bool.{◌&&◌}
use borrow.Author.Tests.{leb-true, le-leb}
use lib.Dec.{leb}
use lib.ListN.{length}
use Rattle.std.specs.Prelude.{Result}
use Rattle.std.proofs.lemmas.Result.{err_from_is_err_and}
use Rattle.octets.proofs.Every.{and_first, and_second}
use Rattle.dates.specs.Calendar.{is_date}
use Rattle.forms.specs.Identifiers.{is_cell_name}
use Rattle.forms.specs.declared.refusals.Refusal.{Refusal}
use Rattle.forms.proofs.Outputs.{refused}
use Rattle.user_permit.specs.declared.Ship.{Ship}
use Rattle.user_permit.proofs.UserPermits.{read_undamaged}
use Rattle.tenants.specs.Cells.{cell_of}
use Rattle.tenants.specs.Rules.{line_for}
use Rattle.tenants.proofs.Ranges.{tenant_is}
use Rattle.layout.specs.Layout.{own_in}
use Rattle.asking.proofs.AnswerRules.{answered_same, judged_undamaged, issued-line}
use Rattle.asking.proofs.LineWritten.{line-written}
use Rattle.asking.proofs.issue.Goals as goal

pub returns-in_err-ship : goal.returns-in_err-ship
returns-in_err-ship c =
    let args = c.args in
    let order = args.order in
    let own = own_in args.book.now args.tenant in
    let registered = sym c.is_register.ensures ∙ c.if-not-is_register.false in
    let line =
    issued-line args.book.now args.register.now args.tenant order.name order.expiry order.level args.permit.now (length args.out.now)
    (judged_undamaged _ _ _ (sym c.judge.ensures ∙ c.in-Some.is)) registered (tenant_is _ c.if-tenant-gt15.false) (le-leb 76 _ c.if-out-lt76.false)
    (sym c.is_given.ensures ∙ c.if-not-is_given.false) in
    let read = read_undamaged args.register.now args.permit.now registered ∙ sym c.read_by.ensures ∙ c.in_err-ship.was in
    let p = err_from_is_err_and c.from_residual.result c.from_residual.ensures.1 in
    rw (p.1, p.2)
    (refused _ _ _
    (line ∙ ap (λ (ship : Result Ship Refusal). line_for ship (cell_of order.name own.cells) own.setting order.expiry order.level) read))

pub returns : goal.returns
returns c =
    let args = c.args in
    let order = args.order in
    let own = own_in args.book.now args.tenant in
    let undamaged = judged_undamaged _ _ _ (sym c.judge.ensures ∙ c.in-Some.is) in
    let tenant = tenant_is _ c.if-tenant-gt15.false in
    let registered = sym c.is_register.ensures ∙ c.if-not-is_register.false in
    let given = sym c.is_given.ensures ∙ c.if-not-is_given.false in
    let first = and_first (is_cell_name order.name && is_date order.expiry) (leb order.level 1) given in
    let date = and_second (is_cell_name order.name) (is_date order.expiry) first in
    let low = leb-true order.level 1 (and_second (is_cell_name order.name && is_date order.expiry) (leb order.level 1) given) in
    let line =
    issued-line args.book.now args.register.now args.tenant order.name order.expiry order.level args.permit.now (length args.out.now)
    undamaged registered tenant (le-leb 76 _ c.if-out-lt76.false) given in
    let read = read_undamaged args.register.now args.permit.now registered ∙ sym c.read_by.ensures ∙ c.in_ok-ship.was in
    answered_same _ _ _ _ _
    (line
    ∙ ap (λ (ship : Result Ship Refusal). line_for ship (cell_of order.name own.cells) own.setting order.expiry order.level) read
    ∙ line-written args.book.now args.tenant undamaged tenant order.expiry order.level date low args.register.now args.permit.now _ read order.name
    (length args.out.now) c.if-out-lt76.false)
    c.issue_for.ensures
