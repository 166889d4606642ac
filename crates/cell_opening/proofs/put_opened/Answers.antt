-- `cell_opening::put_opened` meets its contract.
use mathlib.Core.Path.{refl, sym}
use Prim.Native.Nat.{◌-◌}
use native.Mathlib.Omega.{arith}
use lib.ListN.{length, replicate}
use lib.Seq.{length-take-le}
use Rattle.cell_opening.proofs.LastBlock.{blocks_say}
use Rattle.cell_opening.proofs.KeyJudged.{text_put}
use Rattle.cell_opening.proofs.TextCrc.{piece_length}
use Rattle.cell_opening.proofs.put_opened.Goals as goal

pub overflow_sub-whole : goal.overflow_sub-whole
overflow_sub-whole c = omega (arith, (blocks_say c.args.file.now c.requires.0.0).0)

pub slice_bounds-decipher_blocks-end : goal.slice_bounds-decipher_blocks-end
slice_bounds-decipher_blocks-end c =
    let file = c.args.file.now in
    sym (length-take-le (length file - 8) file (omega arith))

pub slice_bounds-put_text-length : goal.slice_bounds-put_text-length
slice_bounds-put_text-length c =
    piece_length _ _ (replicate 8 0) _ _ c.decipher_blocks-2.ensures (omega (arith, c.requires.1.0))

pub returns : goal.returns
returns c =
    text_put _ c.args.file.now c.args.out.now _ _ (replicate 8 0) _ _ c.requires.0.0 c.requires.0.1 c.requires.1.0 c.requires.1.1 refl
    c.decipher_blocks.ensures c.decipher_blocks-2.ensures c.put_text.ensures
