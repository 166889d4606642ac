-- `cell_opening::judge` meets its contract: the last block tells the padding, and the pieces the CRC-32.
use mathlib.Core.Path.{refl}
use native.Mathlib.Omega.{arith}
use Rattle.cell_opening.proofs.LastBlock.{blocks_say}
use Rattle.cell_opening.proofs.KeyJudged.{none_left, wrongly_padded, padding_fits, other_crc, right_key}
use Rattle.cell_opening.proofs.judge.Goals as goal

pub overflow_sub-file : goal.overflow_sub-file
overflow_sub-file c = omega (arith, (blocks_say c.args.file.now c.requires.0).0)

pub returns-in_default : goal.returns-in_default
returns-in_default c = (
  wrongly_padded c.args.key c.args.crc c.args.file.now _ c.requires.0 c.cell_words.ensures _ _ _ refl
      c.decipher_blocks.ensures c.padding_in.ensures (none_left _ c.in_default.not-Some),
  c.cell_words.ensures,
)

pub overflow_sub-length : goal.overflow_sub-length
overflow_sub-length c =
    let fits = padding_fits c.args.key c.args.crc c.args.file.now _ c.requires.0 c.cell_words.ensures _ _ _ refl
    c.decipher_blocks.ensures c.padding_in.ensures c.in-Some.n c.in-Some.is in
    omega (arith, fits, (blocks_say c.args.file.now c.requires.0).0)

pub text_crc-requires : goal.text_crc-requires
text_crc-requires c =
    (omega (arith, (blocks_say c.args.file.now c.requires.0).1), c.requires.1)

pub returns-then-text_crc-crc : goal.returns-then-text_crc-crc
returns-then-text_crc-crc c = (
  other_crc c.args.key c.args.crc c.args.file.now _ c.requires.0 c.cell_words.ensures _ _ _ refl
      c.decipher_blocks.ensures c.padding_in.ensures c.in-Some.n c.in-Some.is _ c.text_crc.ensures c.if-text_crc-crc.true,
  c.cell_words.ensures,
)

pub returns : goal.returns
returns c = (
  right_key c.args.key c.args.crc c.args.file.now _ c.requires.0 c.cell_words.ensures _ _ _ refl
      c.decipher_blocks.ensures c.padding_in.ensures c.in-Some.n c.in-Some.is _ c.text_crc.ensures c.if-text_crc-crc.false,
  c.cell_words.ensures,
)
