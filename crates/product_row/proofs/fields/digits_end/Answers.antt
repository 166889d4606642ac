-- `product_row::fields::digits_end` meets its contract. The loop's invariant: the digits from i on end where those from the place do.
-- Assumes nothing.
use mathlib.Core.Path.{refl, sym, ◌∙◌}
use Rattle.product_row.proofs.DigitPlaces.{inside, digit_ended, digit_next, digit_none}
use Rattle.product_row.proofs.fields.digits_end.Goals as goal

pub loop-i-init : goal.loop-i-init
loop-i-init c = (inside _ _ c.requires, c.requires, refl)

pub loop-i-preserved : goal.loop-i-preserved
loop-i-preserved c =
    let now = c.loop-i in
    let digit = sym c.is_digit.ensures ∙ c.loop-i-test.true in
    let next = digit_ended _ _ now.invariant.1 digit in
    (inside _ _ next, next, digit_next _ _ now.invariant.1 digit ∙ now.invariant.2)

pub returns : goal.returns
returns c =
    let now = c.loop-i in
    digit_none _ _ now.invariant.1 (sym c.is_digit.ensures ∙ c.loop-i-test.false) ∙ now.invariant.2
