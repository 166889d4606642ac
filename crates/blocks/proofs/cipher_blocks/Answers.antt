-- `blocks::cipher_blocks` meets its contract. The invariant: the first i blocks are worked, and those after them are as they were.
use mathlib.Core.Path.{◌≡◌, refl, sym, ap, ◌∙◌}
use native.Mathlib.Omega.{arith}
use Rattle.blocks.specs.Blocks.{blocks_of_both, blocks_put}
use Rattle.blocks.specs.Fours.{cipher_by}
use Rattle.blocks.proofs.EachBlocks.{both_room, one_alone, worked, worked_none}
use Rattle.blocks.proofs.Turns.{one_turn}
use borrow.Author.Rules.{rules}
use Rattle.blocks.proofs.cipher_blocks.Goals as goal

pub returns-then-n-eq1 : goal.returns-then-n-eq1
returns-then-n-eq1 g c =
    let args = c.args in
    one_alone (cipher_by args.words.now g.q) args.s.now args.out.now
    (sym c.blocks_of_both-n.ensures ∙ c.if-n-eq1.true)
    c.number64.ensures
    (c.requires.1.1.1.1.1 _ _ c.alone.ensures)
    c.put_block.ensures

pub loop-i-init : goal.loop-i-init
loop-i-init g c =
    let args = c.args in
    let room = rw (← c.blocks_of_both-n.ensures) at (both_room args.s.now args.out.now) in
    (search rules, room.0, room.1, refl, worked_none (cipher_by args.words.now g.q) args.s.now args.out.now)

pub loop-i-preserved : goal.loop-i-preserved
loop-i-preserved g c =
    let args = c.args in
    let turn =
    one_turn args.words.now g.q args.s.now args.out.now c.loop-i.i c.min-k.result (omega arith) (omega arith) (omega arith)
    c.loop-i.invariant.4 c.first_four.ensures (c.cipher_four-four.ensures g.q c.requires.1.1.1.0) c.put_blocks.ensures in
    (omega arith, search rules, search rules, turn.0, turn.1)

pub returns : goal.returns
unfolding blocks_put
returns g c =
    let args = c.args in
    let end : c.loop-i.i ≡ blocks_of_both args.s.now args.out.now = omega arith in
    c.loop-i.invariant.4 ∙ ap (worked (cipher_by args.words.now g.q) args.s.now args.out.now) end
