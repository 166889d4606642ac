-- Shifting is linear over exclusive or, so what goes out together can be looked up in parts.
-- Assumes nothing.
use mathlib.Core.Path.{◌≡◌, refl, sym, ap, ap₂, ◌∙◌}
use mathlib.Core.Logic.{inl, inr}
use Prim.Native.Nat.{ℕ, zero, suc, ◌+◌, ◌*◌, ◌/◌, ◌%◌, ◌^◌, ◌<◌}
use native.Mathlib.Nat.{mod-lt, mul-one, div-eq_of_lt, pow-zero, suc-add, zero-add}
use native.Mathlib.Omega.{arith}
use lib.Bits.{bit_xor, differ, xor_shr, xor_shifted, shifted_half, shifted_even, xor_zero_r, xor_comm}
use lib.Pow.{split, pow_pos}
use Rattle.octets.proofs.Xor.{Bit, low_bit, xor_half, xor_low, xor_assoc, xor_pairs}
use Rattle.crc32.specs.Crc32.{polynomial, shift, shifts, feed}

fed_back : (x y : ℕ) → Bit x → Bit y → differ x y * polynomial ≡ bit_xor (x * polynomial) (y * polynomial)
fed_back x y (inl p) (inl q) = rw (p, q)
fed_back x y (inl p) (inr q) = rw (p, q)
fed_back x y (inr p) (inl q) = rw (p, q)
fed_back x y (inr p) (inr q) = rw (p, q)

shift_xor : (a b : ℕ) → shift (bit_xor a b) ≡ bit_xor (shift a) (shift b)
unfolding shift
shift_xor a b =
    ap₂ (λ (x y : ℕ). bit_xor x (y * polynomial)) (xor_half a b) (xor_low a b)
    ∙ ap (bit_xor (bit_xor (a / 2) (b / 2))) (fed_back (a % 2) (b % 2) (low_bit a) (low_bit b))
    ∙ xor_pairs (a / 2) (b / 2) (a % 2 * polynomial) (b % 2 * polynomial)

-- n bits of an exclusive or go out as those of each by itself
pub shifts_xor : (n a b : ℕ) → shifts n (bit_xor a b) ≡ bit_xor (shifts n a) (shifts n b)
unfolding shifts
shifts_xor zero a b = refl
shifts_xor (suc n) a b = ap (shifts n) (shift_xor a b) ∙ shifts_xor n (shift a) (shift b)

-- n low bits that are 0 bring the polynomial in nowhere
shifts_high : (n h : ℕ) → shifts n (h * 2 ^ n) ≡ h
unfolding shifts shift
shifts_high zero h = rw (pow-zero, mul-one)
shifts_high (suc n) h = rw (shifted_half, shifted_even, xor_zero_r) (shifts_high n h)

-- n bits and then m more
pub shifts_more : (n m x : ℕ) → shifts m (shifts n x) ≡ shifts (n + m) x
unfolding shifts
shifts_more zero m x = ap (λ (k : ℕ). shifts k x) (sym (zero-add m))
shifts_more (suc n) m x = shifts_more n m (shift x) ∙ ap (λ (k : ℕ). shifts k x) (sym (suc-add n m))

-- a high and a low part go out by themselves
pub shifts_parts : (n k high low : ℕ) → low < 2 ^ k → shifts n (high * 2 ^ k + low) ≡ bit_xor (shifts n (high * 2 ^ k)) (shifts n low)
shifts_parts n k high low h = ap (shifts n) (sym (xor_shifted high k low h)) ∙ shifts_xor n (high * 2 ^ k) low

shifts_split : (n x : ℕ) → shifts n x ≡ bit_xor (shifts n (x % 2 ^ n)) (x / 2 ^ n)
shifts_split n x =
    ap (shifts n) (sym (split x n))
    ∙ shifts_parts n n (x / 2 ^ n) (x % 2 ^ n) (mod-lt x (pow_pos n))
    ∙ ap (λ (y : ℕ). bit_xor y (shifts n (x % 2 ^ n))) (shifts_high n (x / 2 ^ n))
    ∙ xor_comm (x / 2 ^ n) (shifts n (x % 2 ^ n))

-- a byte goes out as it would from the top of a word
pub byte_from_top : (b : ℕ) → shifts 8 b ≡ shifts 32 (b * 2 ^ 24)
byte_from_top b = ap (shifts 8) (sym (shifts_high 24 b)) ∙ shifts_more 24 8 (b * 2 ^ 24)

-- a byte comes in at the low end alone, so above it c is only moved down
pub feed_low : (c b : ℕ) → b < 256 → feed c b ≡ bit_xor (shifts 8 (bit_xor c b % 256)) (c / 256)
unfolding feed
feed_low c b h =
    shifts_split 8 (bit_xor c b)
    ∙ ap (bit_xor (shifts 8 (bit_xor c b % 256))) (xor_shr c b 8 ∙ ap (bit_xor (c / 256)) (div-eq_of_lt h) ∙ xor_zero_r (c / 256))

-- one byte more, above n bits that have come in already
pub feed_above : (n c w b : ℕ) → w < 2 ^ n → feed (shifts n (bit_xor c w)) b ≡ shifts (n + 8) (bit_xor c (w + b * 2 ^ n))
unfolding feed
feed_above n c w b h =
    ap (λ (y : ℕ). shifts 8 (bit_xor (shifts n (bit_xor c w)) y)) (sym (shifts_high n b))
    ∙ ap (shifts 8) (sym (shifts_xor n (bit_xor c w) (b * 2 ^ n)))
    ∙ shifts_more n 8 (bit_xor (bit_xor c w) (b * 2 ^ n))
    ∙ ap (shifts (n + 8)) (xor_assoc c w (b * 2 ^ n) ∙ ap (bit_xor c) (xor_comm w (b * 2 ^ n) ∙ xor_shifted b n w h ∙ commuted))
  where
    commuted : b * 2 ^ n + w ≡ w + b * 2 ^ n
    commuted = omega arith
