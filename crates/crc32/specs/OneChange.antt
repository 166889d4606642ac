-- What CRC-32 promises of a change at one place.
use Rattle.std.specs.Prelude.{◌≡◌, List, ℕ, ◌<◌, length, get_or}
use Rattle.octets.specs.Numbers.{Below}
use Rattle.crc32.specs.Crc32.{crc32_of}

-- s and t have one length and differ at i and nowhere else
pub record DifferAt (i : ℕ) (s t : List ℕ) : Type 0 where
  pub one_length : length s ≡ length t
  pub within : i < length s
  pub there : get_or s i 0 ≡ get_or t i 0 → ⊥
  pub elsewhere : (k : ℕ) → (k ≡ i → ⊥) → get_or s k 0 ≡ get_or t k 0

-- two lists of bytes that differ in exactly one place have different CRC-32s
abbrev pub OneChange : Type 0
OneChange = (s t : List ℕ) (i : ℕ) → Below 256 s → Below 256 t → DifferAt i s t → crc32_of s ≡ crc32_of t → ⊥
