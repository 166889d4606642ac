-- Numbers as digits in any base, the most significant first; in base 256 the digits are big-endian bytes.
use Rattle.std.specs.Prelude.{List, [], ◌∷◌, ℕ, zero, suc, ◌+◌, ◌*◌, ◌/◌, ◌%◌, ◌^◌, ◌<◌, length, get_or}

-- the n lowest digits of x in base b
unfoldable pub digits : ℕ → ℕ → ℕ → List ℕ
digits b zero x = []
digits b (suc n) x = x / b ^ n % b ∷ digits b n x

-- the number that has these digits in base b
unfoldable pub value : ℕ → List ℕ → ℕ
value b [] = 0
value b (d ∷ ds) = d * b ^ length ds + value b ds

-- each digit is below the base
abbrev pub Below : ℕ → List ℕ → Type 0
Below b ds = (i : ℕ) → get_or ds i 0 < b

-- the n lowest bytes of x
abbrev pub bytes_of : ℕ → ℕ → List ℕ
bytes_of n x = digits 256 n x

-- the number of these bytes
abbrev pub bytes_number : List ℕ → ℕ
bytes_number s = value 256 s
