-- Eight digits as a number, added up at once.
-- Assumes nothing.
use mathlib.Core.Path.{◌≡◌, ◌∙◌}
use mathlib.Core.Bool.{true}
use Prim.Native.Nat.{ℕ, ◌+◌, ◌*◌, ◌/◌, ◌%◌, ◌<◌}
use native.Mathlib.Omega.{arith}
use lib.ListN.{get_or}
use Rattle.octets.specs.Numbers.{digits, value, bytes_of}
use Rattle.octets.specs.Every.{all_of}
use Rattle.octets.proofs.Every.{all_at_lem}
use Rattle.text.specs.Characters.{is_digit, digit_value, decimal_number}
use Rattle.text.proofs.Notations.{digit_low}

-- a digit's character is 48 more than it
character : (c : ℕ) → is_digit c ≡ true → c ≡ digit_value c + 48
unfolding digit_value
character c digit =
    rw digit (omega (arith, digit_low c digit))

-- eight numbers, each times its place
abbrev weighed : ℕ → ℕ → ℕ → ℕ → ℕ → ℕ → ℕ → ℕ → ℕ
weighed a b c d e f g h = a * 10000000 + b * 1000000 + c * 100000 + d * 10000 + e * 1000 + f * 100 + g * 10 + h

module _ (a b c d e f g h : ℕ) where
  -- of bytes it is small, also without the last
  small : a < 256 → b < 256 → c < 256 → d < 256 → e < 256 → f < 256 → g < 256 → h < 256 → weighed a b c d e f g h < 18446744073709551616
  small a_lt b_lt c_lt d-lt e-lt f_lt g-lt h-lt = omega arith

  module _ (a' b' c' d' e' f' g' h' : ℕ) where
    -- 48 more each is 533333328 more
    more
        : a ≡ a' + 48 → b ≡ b' + 48 → c ≡ c' + 48 → d ≡ d' + 48 → e ≡ e' + 48 → f ≡ f' + 48 → g ≡ g' + 48 → h ≡ h' + 48
        → weighed a b c d e f g h ≡ a' * 10000000 + (b' * 1000000 + (c' * 100000 + (d' * 10000 + (e' * 1000 + (f' * 100 + (g' * 10 + (h' * 1 + 0))))))) + 533333328
    more ea eb ec ed ee ef eg eh = omega arith

-- the eight bytes of a number, each times its place
module _ (x : ℕ) where
  abbrev pub weighed_bytes : ℕ
  weighed_bytes =
      weighed (x / 72057594037927936) (x / 281474976710656 % 256) (x / 1099511627776 % 256) (x / 4294967296 % 256) (x / 16777216 % 256) (x / 65536 % 256)
      (x / 256 % 256) (x % 256)

  module _ (fits : x < 18446744073709551616) where
    pub bytes_small : weighed_bytes < 18446744073709551616
    bytes_small =
        small (x / 72057594037927936) (x / 281474976710656 % 256) (x / 1099511627776 % 256) (x / 4294967296 % 256) (x / 16777216 % 256) (x / 65536 % 256)
        (x / 256 % 256) (x % 256)
        (omega arith) (omega arith) (omega arith) (omega arith) (omega arith) (omega arith) (omega arith) (omega arith)

    pub eight-digits : all_of is_digit (bytes_of 8 x) ≡ true → weighed_bytes ≡ decimal_number (bytes_of 8 x) + 533333328
    unfolding digits value
    eight-digits all =
        let byte : (i : ℕ) → i < 8 → is_digit (get_or (bytes_of 8 x) i 0) ≡ true = λ i h. all_at_lem is_digit (bytes_of 8 x) all i h in
        let first : x / 72057594037927936 ≡ x / 72057594037927936 % 256 = omega arith in
        let last : x % 256 ≡ x / 1 % 256 = omega arith in
        more (x / 72057594037927936) (x / 281474976710656 % 256) (x / 1099511627776 % 256) (x / 4294967296 % 256) (x / 16777216 % 256) (x / 65536 % 256)
        (x / 256 % 256) (x % 256)
        _ _ _ _ _ _ _ _
        (first ∙ character (x / 72057594037927936 % 256) (byte 0 (omega arith)))
        (character (x / 281474976710656 % 256) (byte 1 (omega arith)))
        (character (x / 1099511627776 % 256) (byte 2 (omega arith)))
        (character (x / 4294967296 % 256) (byte 3 (omega arith)))
        (character (x / 16777216 % 256) (byte 4 (omega arith)))
        (character (x / 65536 % 256) (byte 5 (omega arith)))
        (character (x / 256 % 256) (byte 6 (omega arith)))
        (last ∙ character (x / 1 % 256) (byte 7 (omega arith)))
