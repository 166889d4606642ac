-- `cell_opening::text_crc` meets its contract. The invariant: what is left of the text gives what the whole gives.
use Rattle.std.proofs.Common.{◌≡◌, ◌*◌, ◌≤◌, take, drop}
use Rattle.crc32.specs.Crc32.{all_ones, feed_all}
use Rattle.blowfish.specs.Cipher.{decipher_of}
use Rattle.cell_opening.specs.Judging.{wholes}
use Rattle.cell_opening.proofs.text_crc.Given as goal

abbrev pub invariant-loop-i : goal.invariant-loop-i
invariant-loop-i l =
    (l.state ≤ all_ones)
    × (feed_all l.state (drop (1024 * l.i) (take l.size (wholes (decipher_of l.words) l.file))) ≡ feed_all all_ones (take l.size (wholes (decipher_of l.words) l.file)))
