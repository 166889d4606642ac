-- The bytes of one word tested at once: their top bits, and what four sums make of them.
-- Assumes nothing.
use Rattle.std.proofs.Common.{◌≡◌, ℕ, zero, suc, ◌+◌, ◌-◌, ◌*◌, ◌/◌, ◌%◌, ◌^◌, ◌<◌, ◌≤◌, Bool, true, false, cond, not, ◌&&◌, ◌||◌, T, eqb, ltb, ◌⊎◌, [], ◌∷◌, sym, refl, ap, ◌∙◌, ap₂, inl, inr, mod-lt, div-lt_iff_lt-mul, pow-suc, div-add-mod', arith, ltb-true, eq-eqb, ne_eqb, eqb-true}
use mathlib.Core.Bool.{and-true}
use lib.Bits.{bit_and, bit_xor, and_zero_r, and_block, xor_block, and_le_r, xor_lt}
use Rattle.octets.specs.Numbers.{digits, bytes_of}
use Rattle.octets.specs.Every.{all_of}
use Rattle.octets.proofs.Every.{and_first, and_second, either, same_tests}
use Rattle.octets.proofs.Tables.{computed}
use Rattle.text.specs.Ascii.{byte}
use Rattle.text.specs.Characters.{between, is_digit}
use Rattle.text.proofs.LowDigits.{digits_low}
use Rattle.text.proofs.TextsAt.{all_append}

-- the number of n bytes c
unfoldable pub bytes_all : ℕ → ℕ → ℕ
bytes_all c zero = 0
bytes_all c (suc n) = bytes_all c n * 256 + c

-- the top bits of n bytes
abbrev pub tops : ℕ → ℕ → ℕ
tops n x = bit_and x (bytes_all 128 n)

-- two tests agree
alike : Bool → Bool → Bool
alike a b = cond a b (not b)

alike_same : (a b : Bool) → T (alike a b) → a ≡ b
unfolding alike
alike_same true true t = refl
alike_same true false t = absurd t
alike_same false true t = absurd t
alike_same false false t = refl

top_byte : (l : ℕ) → l < 256 → eqb (bit_and l 128) 0 ≡ ltb l 128
unfolding alike
top_byte l fits = alike_same _ _ (computed 256 (λ (k : ℕ). alike (eqb (bit_and k 128) 0) (ltb k 128)) tt l fits)

low_lt : (x : ℕ) → x % 256 < 256
low_lt x = mod-lt x (omega arith)

-- the lowest byte, and the word without it
tops_low : (n h l : ℕ) → l < 256 → tops (suc n) (h * 256 + l) ≡ tops n h * 256 + bit_and l 128
unfolding bytes_all
tops_low n h l small = and_block 8 h (bytes_all 128 n) l 128 small (omega arith)

sum_low : (c n x : ℕ) → x + bytes_all c (suc n) ≡ (x / 256 + bytes_all c n) * 256 + (x % 256 + bytes_all c 1)
unfolding bytes_all
sum_low c n x = omega arith

-- four numbers by their lowest bytes
four_low : (A B C D a b c d : ℕ) → a < 256 → b < 256 → c < 256 → d < 256
    → bit_xor (bit_xor (bit_xor (A * 256 + a) (B * 256 + b)) (C * 256 + c)) (D * 256 + d)
    ≡ bit_xor (bit_xor (bit_xor A B) C) D * 256 + bit_xor (bit_xor (bit_xor a b) c) d
four_low A B C D a b c d a_lt b_lt c_lt d-lt =
    let ab-lt = xor_lt 8 a b a_lt b_lt in
    ap (λ (y : ℕ). bit_xor (bit_xor y (C * 256 + c)) (D * 256 + d)) (xor_block 8 A B a b a_lt b_lt)
    ∙ ap (λ (y : ℕ). bit_xor y (D * 256 + d)) (xor_block 8 (bit_xor A B) C (bit_xor a b) c ab-lt c_lt)
    ∙ xor_block 8 (bit_xor (bit_xor A B) C) D (bit_xor (bit_xor a b) c) d (xor_lt 8 (bit_xor a b) c ab-lt c_lt) d-lt

module _ (n x : ℕ) where
  tops_parts : tops (suc n) x ≡ tops n (x / 256) * 256 + bit_and (x % 256) 128
  tops_parts = ap (tops (suc n)) (sym (div-add-mod' x 256)) ∙ tops_low n (x / 256) (x % 256) (low_lt x)

  low_small : bit_and (x % 256) 128 ≡ 0 → x % 256 < 128
  low_small none = ltb-true (x % 256) 128 (sym (top_byte (x % 256) (low_lt x)) ∙ eq-eqb (bit_and (x % 256) 128) 0 none)

  -- where no top bit is set, none is set in the other bytes, nor in the lowest
  pub none_set : tops (suc n) x ≡ 0 → (tops n (x / 256) ≡ 0) × (x % 256 < 128)
  none_set none = (omega (arith, tops_parts), low_small (omega (arith, tops_parts)))

-- n bytes without their top bits are at most 127 each
pub none_above : (n x : ℕ) → x < 256 ^ n → tops n x ≡ 0 → x ≤ bytes_all 127 n
unfolding bytes_all
none_above zero x fits none = omega arith
none_above (suc n) x fits none =
    let parts = none_set n x none in
    let rest : x / 256 < 256 ^ n = (div-lt_iff_lt-mul {k = 256} (omega arith)).1 (rw pow-suc at fits) in
    omega (arith, none_above n (x / 256) rest parts.0, parts.1)

-- 0-9, or a capital letter up to the last one
abbrev up_to : ℕ → ℕ → Bool
up_to last c = is_digit c || between (byte "A") last c

-- in each of n bytes below 128, the top bit says that an odd number of 48, 58, 65 and last + 1 are not above it
unfoldable pub odd : ℕ → ℕ → ℕ → ℕ
odd last n x = bit_xor (bit_xor (bit_xor (x + bytes_all 80 n) (x + bytes_all 70 n)) (x + bytes_all 63 n)) (x + bytes_all (127 - last) n)

-- no top bit is set, and then each is
unfoldable are_up_to : ℕ → ℕ → ℕ → Bool
are_up_to last n x = eqb (tops n x) 0 && eqb (tops n (odd last n x)) (bytes_all 128 n)

-- the last letter of an alphabet: F, Z, or the character before A where it has none
abbrev pub Last : ℕ → Type 0
Last last = (last ≡ byte "@") ⊎ ((last ≡ byte "F") ⊎ (last ≡ byte "Z"))

pub last_letter : (last : ℕ) → (eqb last (byte "@") || eqb last (byte "F") || eqb last (byte "Z")) ≡ true → Last last
last_letter last letter =
    either (eqb last (byte "@"))
    (λ e. inl (eqb-true last (byte "@") e))
    (λ other.
    either (eqb last (byte "F"))
    (λ e. inr (inl (eqb-true last (byte "F") e)))
    (λ e. inr (inr (eqb-true last (byte "Z") (rw (other, e) at letter)))))

-- of each byte, by computing it
up_to_byte : (last l : ℕ) → Last last → l < 256 → are_up_to last 1 l ≡ up_to last l
unfolding alike are_up_to odd bytes_all is_digit
up_to_byte last l (inl e) fits =
    rw e (alike_same _ _ (computed 256 (λ (k : ℕ). alike (are_up_to (byte "@") 1 k) (up_to (byte "@") k)) tt l fits))
up_to_byte last l (inr (inl e)) fits =
    rw e (alike_same _ _ (computed 256 (λ (k : ℕ). alike (are_up_to (byte "F") 1 k) (up_to (byte "F") k)) tt l fits))
up_to_byte last l (inr (inr e)) fits =
    rw e (alike_same _ _ (computed 256 (λ (k : ℕ). alike (are_up_to (byte "Z") 1 k) (up_to (byte "Z") k)) tt l fits))

module _ (last : ℕ) where
  -- the same as facts
  abbrev Passed : ℕ → ℕ → Type 0
  Passed n x = (tops n x ≡ 0) × (tops n (odd last n x) ≡ bytes_all 128 n)

  passed_says : (n x : ℕ) → are_up_to last n x ≡ true → Passed n x
  unfolding are_up_to
  passed_says n x e =
      let none = eqb (tops n x) 0 in
      let all = eqb (tops n (odd last n x)) (bytes_all 128 n) in
      (eqb-true _ _ (and_first none all e), eqb-true _ _ (and_second none all e))

  passed_so : (n x : ℕ) → Passed n x → are_up_to last n x ≡ true
  unfolding are_up_to
  passed_so n x (none, all) = rw (eq-eqb (tops n x) 0 none, eq-eqb (tops n (odd last n x)) (bytes_all 128 n) all)

  odd_low : (n x : ℕ) → x % 256 < 128 → odd last (suc n) x ≡ odd last n (x / 256) * 256 + odd last 1 (x % 256)
  unfolding odd bytes_all
  odd_low n x small =
      ap₂ bit_xor (ap₂ bit_xor (ap₂ bit_xor (sum_low 80 n x) (sum_low 70 n x)) (sum_low 63 n x)) (sum_low (127 - last) n x)
      ∙ four_low (x / 256 + bytes_all 80 n) (x / 256 + bytes_all 70 n) (x / 256 + bytes_all 63 n) (x / 256 + bytes_all (127 - last) n)
      (x % 256 + bytes_all 80 1) (x % 256 + bytes_all 70 1) (x % 256 + bytes_all 63 1) (x % 256 + bytes_all (127 - last) 1)
      (omega arith) (omega arith) (omega arith) (omega arith)

  odd_below : (l : ℕ) → l < 128 → odd last 1 l < 256
  unfolding odd bytes_all
  odd_below l small =
      xor_lt 8 (bit_xor (bit_xor (l + 80) (l + 70)) (l + 63)) (l + bytes_all (127 - last) 1)
      (xor_lt 8 (bit_xor (l + 80) (l + 70)) (l + 63) (xor_lt 8 (l + 80) (l + 70) (omega arith) (omega arith)) (omega arith))
      (omega arith)

  -- the word without its lowest byte, and that byte
  module _ (n x : ℕ) where
    odd-parts : x % 256 < 128 → tops (suc n) (odd last (suc n) x) ≡ tops n (odd last n (x / 256)) * 256 + bit_and (odd last 1 (x % 256)) 128
    odd-parts small =
        ap (tops (suc n)) (odd_low n x small)
        ∙ tops_low n (odd last n (x / 256)) (odd last 1 (x % 256)) (odd_below (x % 256) small)

    apart : Passed (suc n) x → Passed n (x / 256) × Passed 1 (x % 256)
    unfolding bytes_all
    apart (none, all) =
        let low : bit_and (x % 256) 128 ≡ 0 = omega (arith, tops_parts n x) in
        let parts = odd-parts (low_small n x low) in
        let top = and_le_r (odd last 1 (x % 256)) 128 in
        ((omega (arith, tops_parts n x), omega (arith, top)), (low, omega (arith, top)))

    joined : Passed n (x / 256) → Passed 1 (x % 256) → Passed (suc n) x
    unfolding bytes_all
    joined (high-none, high-all) (low, low-all) =
        let parts = odd-parts (low_small n x low) in
        (omega (arith, tops_parts n x), omega arith)

    up-to-parts : are_up_to last (suc n) x ≡ (are_up_to last n (x / 256) && are_up_to last 1 (x % 256))
    up-to-parts =
        let high = are_up_to last n (x / 256) in
        let low = are_up_to last 1 (x % 256) in
        same_tests (are_up_to last (suc n) x) (high && low)
        (λ e. let both = apart (passed_says (suc n) x e) in rw (passed_so n (x / 256) both.0, passed_so 1 (x % 256) both.1))
        (λ e. passed_so (suc n) x (joined (passed_says n (x / 256) (and_first high low e)) (passed_says 1 (x % 256) (and_second high low e))))

module _ (last : ℕ) (letter : Last last) where
  at_once : (n x : ℕ) → are_up_to last n x ≡ all_of (up_to last) (bytes_of n x)
  unfolding are_up_to bytes_all digits all_of
  at_once zero x = rw (and_zero_r x, and_zero_r (odd last 0 x))
  at_once (suc n) x =
      up-to-parts last n x
      ∙ ap₂ (λ (a b : Bool). a && b) (at_once n (x / 256)) (up_to_byte last (x % 256) letter (low_lt x) ∙ sym (and-true (up_to last (x % 256))))
      ∙ sym (ap (all_of (up_to last)) (digits_low 256 n x) ∙ all_append (up_to last) (bytes_of n (x / 256)) (x % 256 ∷ []))

  -- a number whose top bits are looked at as well as those of x: where x has none set, it is `odd`
  module _ (n x y : ℕ) (is : tops n x ≡ 0 → y ≡ odd last n x) where
    pub all_set : tops n y ≡ bytes_all 128 n → eqb (tops n x) 0 ≡ all_of (up_to last) (bytes_of n x)
    unfolding are_up_to
    all_set all =
        either (eqb (tops n x) 0)
        (λ none.
        let so : tops n (odd last n x) ≡ bytes_all 128 n = ap (tops n) (sym (is (eqb-true (tops n x) 0 none))) ∙ all in
        rw none (rw (none, eq-eqb (tops n (odd last n x)) (bytes_all 128 n) so) at (at_once n x)))
        (λ set. rw set (rw set at (at_once n x)))

    pub not-all-set : (tops n y ≡ bytes_all 128 n → ⊥) → false ≡ all_of (up_to last) (bytes_of n x)
    unfolding are_up_to
    not-all-set not =
        either (eqb (tops n x) 0)
        (λ none.
        let other : (tops n (odd last n x) ≡ bytes_all 128 n) → ⊥ = λ e. not (ap (tops n) (is (eqb-true (tops n x) 0 none)) ∙ e) in
        rw (none, ne_eqb (tops n (odd last n x)) (bytes_all 128 n) other) at (at_once n x))
        (λ set. rw set at (at_once n x))
