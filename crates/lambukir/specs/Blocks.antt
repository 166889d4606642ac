-- What comes back for one block under a key.
use Rattle.std.specs.Prelude.{cond, List, ℕ}
use Rattle.blowfish.specs.Cipher.{encipher_of, decipher_of}
use Rattle.blowfish.specs.Schedule.{is_key, schedule, key_number}
use Rattle.lambukir.specs.declared.Block.{Block}

-- the block by the key's words and 0; or for what is no key 0 and 103
unfoldable pub under_key : (List ℕ → ℕ → ℕ) → List ℕ → ℕ → Block
under_key work key x = record { block = cond (is_key key) (work (schedule key) x) 0; number = key_number key }

-- enciphered
abbrev pub encipher_block : List ℕ → ℕ → Block
encipher_block key x = under_key encipher_of key x

-- deciphered
abbrev pub decipher_block : List ℕ → ℕ → Block
decipher_block key x = under_key decipher_of key x
