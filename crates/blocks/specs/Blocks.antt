-- Many blocks, each by itself: block by block, with nothing carried from one to the next.
use Rattle.std.specs.Prelude.{cond, List, [], ◌++◌, ℕ, zero, suc, ◌*◌, ◌/◌, ltb, length, drop}
use Rattle.octets.specs.Numbers.{bytes_of}
use Rattle.octets.specs.Places.{number_at}

-- the first n blocks of s: of each the eight bytes as a number, what f makes of it, and that as eight bytes again
unfoldable pub each_block : (ℕ → ℕ) → ℕ → List ℕ → List ℕ
each_block f zero s = []
each_block f (suc n) s = each_block f n s ++ bytes_of 8 (f (number_at 8 s (8 * n)))

-- how many whole blocks stand in s and have room in out
abbrev pub blocks_of_both : List ℕ → List ℕ → ℕ
blocks_of_both s out = cond (ltb (length s) (length out)) (length s / 8) (length out / 8)

-- so many at the start of out, and after them what stood there
unfoldable pub blocks_put : (ℕ → ℕ) → List ℕ → List ℕ → List ℕ
blocks_put f s out = each_block f (blocks_of_both s out) s ++ drop (8 * blocks_of_both s out) out
