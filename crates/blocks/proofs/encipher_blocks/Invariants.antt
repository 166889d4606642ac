-- `blocks::encipher_blocks` meets its contract: the order of P that its cipher goes by.
use Rattle.blowfish.specs.Cipher.{P}
use Rattle.blocks.proofs.encipher_blocks.Given as goal

abbrev pub ghost-cipher_blocks : goal.ghost-cipher_blocks
ghost-cipher_blocks a = P a.words.now
