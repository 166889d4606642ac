-- The words of a key.
use Rattle.std.specs.Prelude.{ℕ, zero, suc, ◌+◌, ◌*◌, ◌/◌, ◌%◌, ◌^◌, Bool, cond, ◌&&◌, List, length, bit_xor, nat_le, slice_index, slice_set}
use Rattle.pi.specs.Pi.{start_words}
use Rattle.blowfish.specs.Cipher.{encipher_of}

-- a key has 4 to 56 bytes
unfoldable pub is_key : List ℕ → Bool
is_key key = nat_le 4 (length key) && nat_le (length key) 56

-- the key's bytes, repeated from the start as often as needed
abbrev pub key_byte : List ℕ → ℕ → ℕ
key_byte key i = slice_index key (i % length key)

-- four of them from i on, as a word
unfoldable pub key_word : List ℕ → ℕ → ℕ
key_word key i = key_byte key i * 2 ^ 24 + key_byte key (i + 1) * 2 ^ 16 + key_byte key (i + 2) * 2 ^ 8 + key_byte key (i + 3)

-- word n combined with the key by exclusive or
abbrev pub combined : List ℕ → ℕ → List ℕ → List ℕ
combined key n w = slice_set w n (bit_xor (slice_index w n) (key_word key (4 * n)))

-- the first n words so
unfoldable pub keyed : List ℕ → ℕ → List ℕ → List ℕ
keyed key zero w = w
keyed key (suc n) w = combined key n (keyed key n w)

-- words that are being replaced, and the last block
pub record Filling : Type 0 where
  pub words : List ℕ
  pub block : ℕ

-- a block replaces the words 2n and 2n + 1
abbrev pub put : ℕ → List ℕ → ℕ → Filling
put n w x = record { words = slice_set (slice_set w (2 * n) (x / 2 ^ 32)) (2 * n + 1) (x % 2 ^ 32); block = x }

-- the last block is enciphered, and the result replaces the next two words
abbrev pub next : ℕ → Filling → Filling
next n s = put n s.words (encipher_of s.words s.block)

-- n times so
unfoldable pub filled : ℕ → Filling → Filling
filled zero s = s
filled (suc n) s = next n (filled n s)

-- from the zero block through P and S1 to S4: 521 times
unfoldable pub schedule : List ℕ → List ℕ
schedule key = (filled 521 (record { words = keyed key 18 start_words; block = 0 })).words

-- 103 for what is no key
unfoldable pub key_number : List ℕ → ℕ
key_number key = cond (is_key key) 0 103

-- the words of the key, or what stood there before where it is none
unfoldable pub scheduled : List ℕ → List ℕ → List ℕ
scheduled key before = cond (is_key key) (schedule key) before
