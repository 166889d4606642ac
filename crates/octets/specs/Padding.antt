-- Padding fills up to 8 bytes with the count of bytes added: 5 bytes get three 03, 4 bytes get four 04.
use Rattle.std.specs.Prelude.{Bool, cond, List, ◌++◌, ℕ, ◌-◌, ◌/◌, ◌^◌, eqb, length, drop, replicate, None, Option, Some}
use Rattle.octets.specs.Numbers.{bytes_of, bytes_number}
use Rattle.octets.specs.Every.{all_of}

-- s filled up to 8 bytes with the count of bytes added
unfoldable pub padded : List ℕ → List ℕ
padded s = s ++ replicate (8 - length s) (8 - length s)

-- the block, a number of 8 bytes, of the number x of n bytes
unfoldable pub pad_of : ℕ → ℕ → ℕ
pad_of n x = bytes_number (padded (bytes_of n x))

-- the last 8 - n bytes of the block are the count of bytes added
unfoldable pub is_padded : ℕ → ℕ → Bool
is_padded n block = all_of (λ (b : ℕ). eqb b (8 - n)) (drop n (bytes_of 8 block))

-- the number of n bytes that the block was made of
unfoldable pub unpad_of : ℕ → ℕ → Option ℕ
unpad_of n block = cond (is_padded n block) (Some (block / 256 ^ (8 - n))) None
