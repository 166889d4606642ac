-- `asking::check` meets its contract: the days are those of the tenant's own setting. The check finds the refusals by itself.
-- Assumes nothing.
use mathlib.Core.Path.{sym, ap, ◌∙◌}
use Rattle.cell_permit.specs.Line.{read_line}
use Rattle.tenants.specs.declared.Setting.{Setting}
use Rattle.tenants.proofs.Ranges.{tenant_is}
use Rattle.layout.proofs.Indexed.{own_setting}
use Rattle.asking.proofs.AnswerRules.{checked-line}
use Rattle.asking.proofs.LineWritten.{set_days_lem}
use Rattle.asking.proofs.check.Goals as goal

pub returns : goal.returns
returns c =
    let args = c.args in
    let undamaged = sym c.is_book.ensures ∙ c.if-not-is_book.false in
    let tenant = tenant_is _ c.if-tenant-gt15.false in
    let own = own_setting args.book.now args.tenant c.if-tenant-gt15.false in
    c.read_line.ensures
    ∙ ap (λ (x : Setting). read_line args.hw args.today x.days args.line.now) c.setting_of-setting.ensures
    ∙ sym
    (checked-line args.book.now args.tenant args.hw args.today args.line.now _ undamaged tenant own
    (rw own at (set_days_lem args.book.now args.tenant undamaged tenant)))
