-- CRC-32 bit by bit: reflected, polynomial EDB88320, start all ones, final complement.
use Rattle.std.specs.Prelude.{List, ℕ, zero, suc, ◌-◌, ◌*◌, ◌/◌, ◌%◌}
use Rattle.std.specs.List.{fold}
use Rattle.std.specs.Int.Bits.{bit_xor}

-- the polynomial, its bits in the reflected order
abbrev pub polynomial : ℕ
polynomial = 0xEDB88320

-- the start, and what complements
abbrev pub all_ones : ℕ
all_ones = 0xFFFFFFFF

-- one bit goes out at the low end; where it is 1 the polynomial is combined in
unfoldable pub shift : ℕ → ℕ
shift c = bit_xor (c / 2) (c % 2 * polynomial)

-- n bits go out
unfoldable pub shifts : ℕ → ℕ → ℕ
shifts zero c = c
shifts (suc n) c = shifts n (shift c)

-- one byte comes in
unfoldable pub feed : ℕ → ℕ → ℕ
feed c b = shifts 8 (bit_xor c b)

-- byte after byte
unfoldable pub feed_all : ℕ → List ℕ → ℕ
feed_all c s = fold feed c s

-- CRC-32 of the bytes
unfoldable pub crc32_of : List ℕ → ℕ
crc32_of s = all_ones - feed_all all_ones s
