-- `mending::print` meets its contract: the refusal in words, or what mending gives.
-- Assumes nothing.
use Rattle.std.proofs.Common.{◌≢◌, ◌≤◌, length, sym, ap, ◌∙◌, arith, rules}
use Rattle.std.specs.Prelude.{Err}
use Rattle.forms.specs.declared.refusals.Refusal.TheVariants.{Shape}
use Rattle.mending.proofs.Mends.{Printed, printed_103, printed-mended, printed-12}
use Rattle.mending.proofs.print.Goals as goal
use Rattle.mending.proofs.print.Goals.{After-mend}

-- an input that is not too long, mended
module _ (mended : After-mend) where
  small : length mended.args.input.now ≤ 65536
  small = omega (arith, mended.if-input-gt65536.false)

  printed : mended.mend.result ≢ Err Shape → Printed mended.args.input.now mended.args.out.now mended.args.list.now mended.mend.result mended.mend.new.out mended.mend.new.list
  printed other =
      printed-mended mended.args.input.now mended.args.out.now mended.args.list.now small mended.mend.new.out mended.mend.new.list
      mended.mend.result mended.mend.ensures other

pub returns-then-input-gt65536 : goal.returns-then-input-gt65536
returns-then-input-gt65536 c =
    let args = c.args in
    printed_103 args.input.now args.out.now args.list.now c.if-input-gt65536.true c.put_refusal.result c.put_refusal.new.list c.put_refusal.ensures

pub returns-in-Ok : goal.returns-in-Ok
returns-in-Ok c =
    let all = printed (goal.at.returns-in-Ok c).After-mend (λ is. let both = sym c.in-Ok.is ∙ is in cc) in
    (sym c.in-Ok.is ∙ all.0, all.1)

pub returns-in-Err-Shape : goal.returns-in-Err-Shape
returns-in-Err-Shape c =
    printed-12 c.args.input.now c.args.out.now c.args.list.now (small (goal.at.returns-in-Err-Shape c).After-mend) c.mend.new.out c.mend.new.list
    c.mend.result c.mend.ensures (c.in-Err-Shape.is ∙ ap Err c.in-Err-Shape.field-0-is)
    c.put_refusal-in-Err-Shape.result c.put_refusal-in-Err-Shape.new.list c.put_refusal-in-Err-Shape.ensures

pub returns-in-Err : goal.returns-in-Err
returns-in-Err c =
    let other : c.in-Err.refusal ≢ Shape = search rules in
    let all = printed (goal.at.returns-in-Err c).After-mend (λ is. let both = sym c.in-Err.is ∙ is in other (cc)) in
    (sym c.in-Err.is ∙ all.0, all.1)
