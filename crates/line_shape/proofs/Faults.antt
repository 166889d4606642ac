-- A byte below 128 says that a character passes a test: how such bytes are made, and taken together.
-- Assumes nothing.
use Rattle.std.proofs.Common.{◌≡◌, ℕ, ◌+◌, ◌-◌, ◌*◌, ◌/◌, ◌%◌, ◌<◌, ◌≤◌, Bool, true, false, cond, not, ◌&&◌, ◌||◌, T, ltb, leb, sym, refl, ◌∙◌, ap₂, arith, ltb-false, ltb-true, le-ltb, lt-ltb, le-leb, leb-true}
use lib.Bits.{bit_and, bit_or, or_lt, or_add_and, and_le_l, and_le_r, and_block}
use Rattle.octets.proofs.Every.{and_first, and_second, either, same_tests}
use Rattle.octets.proofs.Tables.{computed}
use Rattle.text.specs.Characters.{between, is_digit, is_upper_hex, is_hex, is_name_character, raised}

-- the character passes
abbrev pub passes : ℕ → Bool
passes fault = ltb fault 128

-- both pass
pub both_pass : (a b : ℕ) → passes (bit_or a b) ≡ (passes a && passes b)
both_pass a b =
    same_tests (passes (bit_or a b)) (passes a && passes b)
    (λ both. let h : bit_or a b < 128 = ltb-true _ _ both in
    rw (lt-ltb a 128 (omega (arith, or_add_and a b, and_le_r a b)), lt-ltb b 128 (omega (arith, or_add_and a b, and_le_l a b))))
    (λ each. let x : a < 128 = ltb-true a 128 (and_first (passes a) (passes b) each) in
    let y : b < 128 = ltb-true b 128 (and_second (passes a) (passes b) each) in
    lt-ltb (bit_or a b) 128 (or_lt 7 a b x y))

-- one of two passes
pub one_passes : (a b : ℕ) → a < 256 → b < 256 → passes (bit_and a b) ≡ (passes a || passes b)
one_passes a b a-fits b-fits =
    either (passes a)
    (λ good. rw good (lt-ltb (bit_and a b) 128 (omega (arith, ltb-true a 128 good, and_le_l a b))))
    (λ bad.
    either (passes b)
    (λ good. rw (bad, good) (lt-ltb (bit_and a b) 128 (omega (arith, ltb-true b 128 good, and_le_r a b))))
    (λ worse.
    let x : a ≡ 1 * 128 + (a - 128) = omega (arith, ltb-false a 128 bad) in
    let y : b ≡ 1 * 128 + (b - 128) = omega (arith, ltb-false b 128 worse) in
    let tops : bit_and a b ≡ bit_and 1 1 * 128 + bit_and (a - 128) (b - 128) =
    ap₂ bit_and x y ∙ and_block 7 1 1 (a - 128) (b - 128) (omega arith) (omega arith) in
    rw (bad, worse) (le-ltb (bit_and a b) 128 (omega (arith, tops)))))

-- what is left of a character when low is taken from it, and of high when the character is
pub within_range : (low high c x y : ℕ) → low ≤ high → high ≤ 127 → c < 256 → x < 256 → y < 256 → (x + low) % 256 ≡ c → (y + c) % 256 ≡ high
    → passes (bit_or x y) ≡ between low high c
within_range low high c x y order small c-fits x_Fits y-fits from to =
    both_pass x y
    ∙ same_tests (passes x && passes y) (leb low c && leb c high)
    (λ each. let a : x < 128 = ltb-true x 128 (and_first (passes x) (passes y) each) in
    let b : y < 128 = ltb-true y 128 (and_second (passes x) (passes y) each) in
    rw (le-leb low c (omega arith), le-leb c high (omega arith)))
    (λ each. let a : low ≤ c = leb-true low c (and_first (leb low c) (leb c high) each) in
    let b : c ≤ high = leb-true c high (and_second (leb low c) (leb c high) each) in
    rw (lt-ltb x 128 (omega arith), lt-ltb y 128 (omega arith)))

-- two tests agree
alike : Bool → Bool → Bool
alike a b = cond a b (not b)

alike_same : (a b : Bool) → T (alike a b) → a ≡ b
unfolding alike
alike_same true true t = refl
alike_same true false t = absurd t
alike_same false true t = absurd t
alike_same false false t = refl

-- of each byte, by computing it
hex_byte : (c : ℕ) → c < 256 → (is_digit c || between 97 102 (bit_or c 32)) ≡ is_hex c
unfolding alike is_hex is_upper_hex is_digit raised
hex_byte c fits = alike_same _ _ (computed 256 (λ (k : ℕ). alike (is_digit k || between 97 102 (bit_or k 32)) (is_hex k)) tt c fits)

module _ (c x y : ℕ) (c-fits : c < 256) (x_Fits : x < 256) (y-fits : y < 256) (digit : passes x ≡ between 48 57 c) where
  pub hex_passes : passes y ≡ between 97 102 (bit_or c 32) → passes (bit_and x y) ≡ is_hex c
  unfolding is_digit
  hex_passes letter = one_passes x y x_Fits y-fits ∙ ap₂ (λ (a b : Bool). a || b) digit letter ∙ hex_byte c c-fits

  pub name_passes : passes y ≡ between 65 90 c → passes (bit_and x y) ≡ is_name_character c
  unfolding is_digit is_name_character
  name_passes letter = one_passes x y x_Fits y-fits ∙ ap₂ (λ (a b : Bool). a || b) digit letter

  pub digit_counts : 1 - x / 128 ≡ cond (is_digit c) 1 0
  unfolding is_digit
  digit_counts =
      either (passes x)
      (λ good. rw (sym digit ∙ good) (omega (arith, ltb-true x 128 good)))
      (λ bad. rw (sym digit ∙ bad) (omega (arith, ltb-false x 128 bad)))
