-- Numbers at places of a slice, and where a place is.
use Rattle.std.specs.Prelude.{cond, List, ℕ, ◌+◌, leb, length, take, drop}
use Rattle.std.specs.Borrow.{Bor}
use Rattle.octets.specs.Numbers.{bytes_number}

-- the number of the n bytes of s from place at; 0 where they do not all lie within s
unfoldable pub number_at : ℕ → List ℕ → ℕ → ℕ
number_at n s at = cond (leb (at + n) (length s)) (bytes_number (take n (drop at s))) 0

-- where a place of a lent slice is: in the same block of memory, so many elements on
abbrev pub point_at : Bor (List ℕ) → ℕ → ℕ × ℕ
point_at s at = (s.ref_ptr.0, s.ref_ptr.1 + at)
