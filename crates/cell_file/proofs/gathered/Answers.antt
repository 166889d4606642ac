-- `cell_file::gathered` meets its contract. The invariant: the first i bytes of s have been gathered after those of x, and these are fewer than eight.
use native.Mathlib.Omega.{arith}
use Rattle.cell_file.proofs.Gathering.{none_yet, seven, one_more, all_gathered}
use Rattle.cell_file.proofs.gathered.Goals as goal

pub loop-b-init : goal.loop-b-init
loop-b-init c = none_yet c.args.x c.args.s.now c.requires.0 c.requires.1

pub overflow_mul-gathered : goal.overflow_mul-gathered
overflow_mul-gathered c =
    let now = c.loop-b in
    omega (arith, seven _ _ _ _ now.invariant (omega arith) (λ k. omega (arith, c.type_inv.s k)))

pub overflow_add-gathered : goal.overflow_add-gathered
overflow_add-gathered c =
    let now = c.loop-b in
    omega (arith, seven _ _ _ _ now.invariant (omega arith) (λ k. omega (arith, c.type_inv.s k)), c.type_inv.s now.b-index)

pub loop-b-preserved : goal.loop-b-preserved
loop-b-preserved c = one_more _ _ _ _ c.loop-b.invariant (omega arith)

pub returns : goal.returns
returns c = all_gathered _ _ _ _ c.loop-b.invariant (omega arith)
