-- `blocks::decipher_blocks` meets its contract: the order of P that its cipher goes by.
use Rattle.blowfish.specs.Cipher.{far_end}
use Rattle.blocks.proofs.decipher_blocks.Given as goal

abbrev pub ghost-cipher_blocks : goal.ghost-cipher_blocks
ghost-cipher_blocks a = far_end a.words.now
