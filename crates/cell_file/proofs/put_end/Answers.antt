-- `cell_file::put_end` meets its contract: the last block, enciphered.
use mathlib.Core.Path.{ap, ◌∙◌}
use mathlib.Core.List.{List}
use Prim.Native.Nat.{ℕ}
use Rattle.octets.specs.Numbers.{bytes_of}
use Rattle.blowfish.specs.Cipher.{encipher_of}
use Rattle.text.specs.Texts.{placed}
use Rattle.cell_file.proofs.put_end.Goals as goal

pub returns : goal.returns
returns c =
    let args = c.args in
    c.put_text.ensures
    ∙ ap (λ (l : List ℕ). placed args.at l args.out.now)
    (c.bytes64-block.ensures ∙ ap (bytes_of 8) (c.encipher.ensures ∙ ap (encipher_of args.words.now) c.last_block.ensures))
