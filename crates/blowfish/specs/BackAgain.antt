-- What Blowfish promises: deciphering gives the block back, and so does enciphering what was deciphered.
use Rattle.std.specs.Prelude.{◌≡◌, ℕ, ◌^◌, ◌<◌, List}
use Rattle.octets.specs.Numbers.{Below}
use Rattle.blowfish.specs.declared.Block.{Block}
use Rattle.blowfish.specs.Cipher.{F, P, far_end, cipher, encipher_of, decipher_of}
use Rattle.blowfish.specs.Schedule.{schedule}

-- deciphering after enciphering, for every P and S, not only those that come from a key
abbrev pub DecipherAfterEncipher : Type 0
DecipherAfterEncipher = (w : List ℕ) (b : Block) → cipher (F w) (far_end w) (cipher (F w) (P w) b) ≡ b

-- enciphering after deciphering too
abbrev pub EncipherAfterDecipher : Type 0
EncipherAfterDecipher = (w : List ℕ) (b : Block) → cipher (F w) (P w) (cipher (F w) (far_end w) b) ≡ b

-- the same of blocks of eight bytes as numbers, where the words have 32 bits
abbrev pub NumberBack : Type 0
NumberBack = (w : List ℕ) → Below (2 ^ 32) w → (x : ℕ) → x < 2 ^ 64 → decipher_of w (encipher_of w x) ≡ x

-- and the other way round
abbrev pub NumberForth : Type 0
NumberForth = (w : List ℕ) → Below (2 ^ 32) w → (x : ℕ) → x < 2 ^ 64 → encipher_of w (decipher_of w x) ≡ x

-- what is enciphered is a block of eight bytes again
abbrev pub BlocksStayBlocks : Type 0
BlocksStayBlocks = (w : List ℕ) → Below (2 ^ 32) w → (x : ℕ) → x < 2 ^ 64 → (encipher_of w x < 2 ^ 64) × (decipher_of w x < 2 ^ 64)

-- the words of a key have 32 bits
abbrev pub KeysHaveWords : Type 0
KeysHaveWords = (key : List ℕ) → Below 256 key → Below (2 ^ 32) (schedule key)
