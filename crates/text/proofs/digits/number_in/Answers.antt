-- `text::digits::number_in` meets its contract. The loop's invariant: x is the number of the characters read. Assumes nothing.
use Rattle.std.proofs.Common.{◌+◌, ◌*◌, ◌^◌, ◌<◌, sym, arith}
use Rattle.text.proofs.NumbersIn.{read_start, read_next, read_wrong, read_fits, read_end}
use Rattle.text.proofs.digits.number_in.Goals as goal
use Rattle.text.proofs.digits.number_in.Goals.{Else-v-b}

pub loop-c-init : goal.loop-c-init
loop-c-init c = read_start c.args.base c.requires

pub returns-then-v-b : goal.returns-then-v-b
returns-then-v-b c = sym (read_wrong c.args.base c.loop-c.invariant c.loop-c-test.true c.value-v.ensures c.number-b.ensures c.if-v-b.true)

fits : (c : Else-v-b) → c.loop-c.x * c.number-b.result + c.value-v.result < 2 ^ 64
fits c = read_fits c.args.base c.loop-c.invariant c.loop-c-test.true c.value-v.ensures c.number-b.ensures c.if-v-b.false

pub overflow_mul-x : goal.overflow_mul-x
overflow_mul-x c = omega (arith, fits c)

pub overflow_add-x : goal.overflow_add-x
overflow_add-x c = omega (arith, fits c)

pub loop-c-preserved : goal.loop-c-preserved
loop-c-preserved c = read_next c.args.base c.loop-c.invariant c.loop-c-test.true c.value-v.ensures c.number-b.ensures c.if-v-b.false

pub returns : goal.returns
returns c = sym (read_end c.args.base c.loop-c.invariant c.loop-c-test.false)
