-- Texts at places of a slice: their alphabet, the numbers that they are, and how they are put there.
use Rattle.std.specs.Prelude.{ℕ, zero, suc, ◌+◌, ◌/◌, Bool, true, false, cond, ◌&&◌, List, [], ◌∷◌, ◌++◌, length, take, drop, ◌==◌, nat_le, nat_lt, None, Option, Some}
use Rattle.octets.specs.Every.{all_of}
use Rattle.text.specs.Characters.{is_digit, is_hex, hex_number, decimal_text, decimal_number}

-- the n bytes of s from place at
abbrev pub part : ℕ → List ℕ → ℕ → List ℕ
part n s at = take n (drop at s)

-- the n bytes of s from place at lie within s, and each passes the test
unfoldable pub all_at : (ℕ → Bool) → ℕ → List ℕ → ℕ → Bool
all_at test n s at = nat_le (at + n) (length s) && all_of test (part n s at)

-- the number of the n hex characters from place at; 16 characters are a number of 64 bits, and no more are read
unfoldable pub hex_at : ℕ → List ℕ → ℕ → Option ℕ
hex_at n s at = cond (nat_le n 16 && all_at is_hex n s at) (Some (hex_number (part n s at))) None

-- the same of digits, of which a number of 64 bits holds 19
unfoldable pub decimal_at : ℕ → List ℕ → ℕ → Option ℕ
decimal_at n s at = cond (nat_le n 19 && all_at is_digit n s at) (Some (decimal_number (part n s at))) None

-- two texts are the same, byte for byte
unfoldable pub same_text : List ℕ → List ℕ → Bool
same_text [] [] = true
same_text [] (b ∷ t) = false
same_text (a ∷ s) [] = false
same_text (a ∷ s) (b ∷ t) = a == b && same_text s t

-- the text t stands at a place of s
abbrev pub stands_at : List ℕ → List ℕ → ℕ → Bool
stands_at t s at = same_text (part (length t) s at) t

-- a byte put before the first of some texts
unfoldable pub onto : ℕ → List (List ℕ) → List (List ℕ)
onto c [] = (c ∷ []) ∷ []
onto c (t ∷ ts) = (c ∷ t) ∷ ts

-- s with the text t put at a place; s as it was where t does not lie within it
unfoldable pub placed : ℕ → List ℕ → List ℕ → List ℕ
placed at t s = cond (nat_le (at + length t) (length s)) (take at s ++ (t ++ drop (at + length t) s)) s

-- how many digits x has, at least one and at most n + 1
unfoldable pub width_up_to : ℕ → ℕ → ℕ
width_up_to zero x = 1
width_up_to (suc n) x = cond (nat_lt x 10) 1 (suc (width_up_to n (x / 10)))

-- how many digits a number of 64 bits has: 20 at most
abbrev pub width : ℕ → ℕ
width x = width_up_to 19 x

-- x in as many digits as it has: no leading zeros
unfoldable pub numeral : ℕ → List ℕ
numeral x = decimal_text (width x) x
