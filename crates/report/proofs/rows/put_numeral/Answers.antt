-- `report::rows::put_numeral` meets its contract.
-- Assumes nothing.
use mathlib.Core.Path.{◌≡◌, sym, ap, ◌∙◌}
use Prim.Native.Nat.{ℕ, ◌+◌}
use native.Mathlib.Omega.{arith}
use Rattle.text.specs.Characters.{decimal_text}
use Rattle.text.specs.Texts.{width, numeral, placed}
use Rattle.text.proofs.Numerals.{numeral-length}
use Rattle.report.proofs.rows.put_numeral.Goals as goal

pub overflow_add-result : goal.overflow_add-result
overflow_add-result c = omega (arith, c.width-n.ensures, numeral-length c.args.x)

pub returns : goal.returns
unfolding numeral
returns c =
    let x = c.args.x in
    let at = c.args.at in
    let out = c.args.out.now in
    let w : c.width-n.result ≡ width x = c.width-n.ensures in (
      ap (λ (n : ℕ). at + n) (w ∙ sym (numeral-length x)),
      c.put_decimal.ensures ∙ ap (λ (n : ℕ). placed at (decimal_text n x) out) w,
    )
