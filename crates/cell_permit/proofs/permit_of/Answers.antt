-- `cell_permit::permit_of` meets its contract. Assumes nothing.
use mathlib.Core.Path.{sym, ◌∙◌}
use native.Mathlib.Omega.{arith}
use Rattle.text.proofs.NumbersAt.{hex_number_lem}
use Rattle.forms.proofs.DateTexts.{date_right, date_same, date_small}
use Rattle.cell_permit.specs.Line.{is_permit, permit_parts}
use Rattle.cell_permit.specs.LineParts.{permit_of}
use Rattle.cell_permit.proofs.permit_of.Goals as goal

pub overflow_cast-result : goal.overflow_cast-result
overflow_cast-result c = omega (arith, date_small _ 8 _ (sym c.date_at.ensures ∙ c.in_ok-expiry.was))

pub returns : goal.returns
unfolding permit_of is_permit permit_parts
returns c =
    let line = c.args.line.now in
    let dated = sym c.date_at.ensures ∙ c.in_ok-expiry.was in
    let one = hex_number_lem 16 line 16 _ (sym c.hex_at.ensures ∙ c.in_ok-block1.was) in
    let two = hex_number_lem 16 line 32 _ (sym c.hex_at-2.ensures ∙ c.in_ok-block2.was) in
    let check = hex_number_lem 16 line 48 _ (sym c.hex_at-3.ensures ∙ c.in_ok-check.was) in
    rw (sym c.all_of.ensures ∙ c.if-not-all_of.false, date_right line 8 _ dated, one.0, two.0, check.0, c.number64.ensures, one.1, two.1, check.1, date_same line 8 _ dated)
