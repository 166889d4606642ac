-- `text::writing::raise` meets its contract. The loop's invariant: of the bytes so many are raised. Assumes nothing.
use Rattle.std.proofs.Common.{refl, arith}
use Rattle.text.proofs.PutTexts.{raised_more, raised_all}
use Rattle.text.proofs.writing.raise.Goals as goal

pub loop-c-init : goal.loop-c-init
loop-c-init c = refl

pub loop-c-preserved : goal.loop-c-preserved
loop-c-preserved c =
    raised_more c.args.text.now c.loop-c.text c.loop-c.c-index c.raised.result (omega (arith, c.loop-c-test.true, c.loop-c.auto.text)) c.raised.ensures c.loop-c.invariant

pub returns : goal.returns
returns c = raised_all c.args.text.now c.loop-c.text c.loop-c.c-index (omega (arith, c.loop-c-test.false, c.loop-c.auto.text)) c.loop-c.invariant
