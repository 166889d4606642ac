-- What the code looks up, and what its four streams stand for: for inner contracts alone.
use Rattle.std.specs.Prelude.{◌≡◌, List, [], ℕ, ◌+◌, ◌*◌, ◌^◌, ◌<◌, get_or}
use Rattle.std.specs.Int.{w32, from_le_bytes}
use Rattle.std.specs.Int.Bits.{bit_xor}
use Rattle.std.specs.Simd.{first_chunks}
use Rattle.crc32.specs.Crc32.{shifts}
use Rattle.crc32_long.specs.declared.Streams.{Streams}

-- what is left of the byte n at a place of a word, the low place being 0, when 128 bits have gone out
abbrev pub byte_out : ℕ → ℕ → ℕ
byte_out place n = shifts 128 (n * 256 ^ place)

-- 256 entries for each of a word's four bytes
pub record IsTable (t : List ℕ) : Type 0 where
  pub entry : (place n : ℕ) → place < 4 → n < 256 → get_or t (256 * place + n) 0 ≡ byte_out place n

-- the word k of sixteen bytes, the low byte first
abbrev pub word_of : List ℕ → ℕ → ℕ
word_of s k = from_le_bytes w32 (get_or (first_chunks 4 4 s) k [])

-- the four words of sixteen bytes
abbrev pub words_of : List ℕ → Streams
words_of s = record { a = word_of s 0; b = word_of s 1; c = word_of s 2; d = word_of s 3 }

-- the state that the streams stand for: their words come in one after the other, where nothing came in before
unfoldable pub four_in : Streams → ℕ
four_in x = shifts 32 (bit_xor (shifts 32 (bit_xor (shifts 32 (bit_xor (shifts 32 x.a) x.b)) x.c)) x.d)
