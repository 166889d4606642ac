-- `cell_opening::text_crc` meets its contract. The invariant: what is left of the text gives what the whole gives.
use Rattle.std.proofs.Common.{◌≡◌, ℕ, ◌+◌, ◌*◌, drop, ap, ◌∙◌, arith, rules}
use Rattle.crc32.specs.Crc32.{feed_all}
use Rattle.blowfish.specs.Cipher.{decipher_of}
use Rattle.cell_opening.proofs.TextCrc.{plain, onward_fits, piece_in, all_in}
use Rattle.cell_opening.proofs.text_crc.Goals as goal

pub feed_piece-state-requires : goal.feed_piece-state-requires
feed_piece-state-requires c =
    onward_fits (decipher_of c.args.words.now) c.args.file.now c.args.size c.requires.0 (1024 * c.loop-i.i) (omega arith) (omega arith) _ c.min.ensures

pub loop-i-preserved : goal.loop-i-preserved
loop-i-preserved c =
    let args = c.args in
    let at = 1024 * c.loop-i.i in
    let further : 1024 * (c.loop-i.i + 1) ≡ at + 1024 = omega arith in (
      search rules,
      ap (λ (n : ℕ). feed_all c.feed_piece-state.result (drop n (plain (decipher_of args.words.now) args.file.now args.size c.requires.0))) further
          ∙ piece_in (decipher_of args.words.now) args.file.now args.size c.requires.0 at (omega arith) (omega arith) _ _ _ c.min.ensures c.feed_piece-state.ensures c.loop-i.invariant.1,
    )

pub returns : goal.returns
returns c =
    all_in (decipher_of c.args.words.now) c.args.file.now c.args.size c.requires.0 (1024 * c.loop-i.i) _ (omega arith) c.loop-i.invariant.1
