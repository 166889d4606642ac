-- A change of one byte changes the CRC-32: shifting is one-to-one, since the bit that goes out comes back as the top bit.
-- Assumes nothing.
use mathlib.Core.Path.{◌≡◌, sym, ap, ap₂, ◌∙◌}
use mathlib.Core.Logic.{inl, inr}
use mathlib.Core.List.{List, [], ◌∷◌}
use Prim.Native.Nat.{ℕ, zero, suc, ◌+◌, ◌*◌, ◌/◌, ◌%◌, ◌^◌, ◌<◌}
use native.Mathlib.Nat.{div-add-mod', div-eq_of_lt, le_of_suc-le-suc}
use native.Mathlib.Omega.{arith}
use lib.Bits.{bit_xor, xor_shr, xor_lt}
use lib.Dec.{lit<}
use lib.ListN.{get_or}
use lib.Seq.{ext_get_or}
use Rattle.octets.specs.Numbers.{Below}
use Rattle.octets.proofs.Xor.{Bit, low_bit, xor_cancel_right, xor_cancel_left}
use Rattle.crc32.specs.Crc32.{polynomial, all_ones, shift, shifts, feed, feed_all, crc32_of}
use Rattle.crc32.specs.OneChange.{DifferAt, OneChange}

abbrev Word : ℕ → Type 0
Word c = c < 2 ^ 32

-- the polynomial's top bit is 1
top_bit : (x : ℕ) → Bit x → x * polynomial / 2 ^ 31 ≡ x
top_bit x (inl p) = rw p
top_bit x (inr p) = rw p

fed_back_word : (x : ℕ) → Bit x → Word (x * polynomial)
fed_back_word x (inl p) = omega arith
fed_back_word x (inr p) = omega arith

shift_word : (c : ℕ) → Word c → Word (shift c)
unfolding shift
shift_word c h = xor_lt 32 (c / 2) (c % 2 * polynomial) (omega arith) (fed_back_word (c % 2) (low_bit c))

out_is_top : (c : ℕ) → Word c → shift c / 2 ^ 31 ≡ c % 2
unfolding shift
out_is_top c h =
    xor_shr (c / 2) (c % 2 * polynomial) 31
    ∙ ap₂ bit_xor (div-eq_of_lt {n = c / 2} {m = 2 ^ 31} (omega arith)) (top_bit (c % 2) (low_bit c))

shift_injective : (a b : ℕ) → Word a → Word b → shift a ≡ shift b → a ≡ b
unfolding shift
shift_injective a b ha hb e =
    let low : a % 2 ≡ b % 2 = sym (out_is_top a ha) ∙ ap (λ (x : ℕ). x / 2 ^ 31) e ∙ out_is_top b hb in
    let half : a / 2 ≡ b / 2 = xor_cancel_right (a / 2) (b / 2) (b % 2 * polynomial) (ap (λ (x : ℕ). bit_xor (a / 2) (x * polynomial)) (sym low) ∙ e) in
    sym (div-add-mod' a 2) ∙ ap₂ (λ (x y : ℕ). x * 2 + y) half low ∙ div-add-mod' b 2

shifts_word : (n c : ℕ) → Word c → Word (shifts n c)
unfolding shifts
shifts_word zero c h = h
shifts_word (suc n) c h = shifts_word n (shift c) (shift_word c h)

shifts_injective : (n a b : ℕ) → Word a → Word b → shifts n a ≡ shifts n b → a ≡ b
unfolding shifts
shifts_injective zero a b ha hb e = e
shifts_injective (suc n) a b ha hb e =
    shift_injective a b ha hb (shifts_injective n (shift a) (shift b) (shift_word a ha) (shift_word b hb) e)

with_byte : (c b : ℕ) → Word c → b < 256 → Word (bit_xor c b)
with_byte c b hc hb = xor_lt 32 c b hc (omega arith)

pub feed_word : (c b : ℕ) → Word c → b < 256 → Word (feed c b)
unfolding feed
feed_word c b hc hb = shifts_word 8 (bit_xor c b) (with_byte c b hc hb)

same_state : (a c b : ℕ) → Word a → Word c → b < 256 → feed a b ≡ feed c b → a ≡ c
unfolding feed
same_state a c b ha hc hb e =
    xor_cancel_right a c b (shifts_injective 8 (bit_xor a b) (bit_xor c b) (with_byte a b ha hb) (with_byte c b hc hb) e)

same_byte : (c a b : ℕ) → Word c → a < 256 → b < 256 → feed c a ≡ feed c b → a ≡ b
unfolding feed
same_byte c a b hc ha hb e =
    xor_cancel_left a b c (shifts_injective 8 (bit_xor c a) (bit_xor c b) (with_byte c a hc ha) (with_byte c b hc hb) e)

feed_all_word : (s : List ℕ) (c : ℕ) → Below 256 s → Word c → Word (feed_all c s)
unfolding feed_all
feed_all_word [] c h hc = hc
feed_all_word (b ∷ s) c h hc = feed_all_word s (feed c b) (λ k. h (suc k)) (feed_word c b hc (h zero))

same_start : (s : List ℕ) (a c : ℕ) → Below 256 s → Word a → Word c → feed_all a s ≡ feed_all c s → a ≡ c
unfolding feed_all
same_start [] a c h ha hc e = e
same_start (b ∷ s) a c h ha hc e =
    same_state a c b ha hc (h zero)
    (same_start s (feed a b) (feed c b) (λ k. h (suc k)) (feed_word a b ha (h zero)) (feed_word c b hc (h zero)) e)

-- the lists are walked together up to the place; what follows it is the same list
at_place : (s t : List ℕ) (i c : ℕ) → Below 256 s → Below 256 t → Word c → DifferAt i s t → feed_all c s ≡ feed_all c t → get_or s i 0 ≡ get_or t i 0
unfolding feed_all
at_place [] t i c hs ht hc d e = absurd (omega (arith, d.within))
at_place (x ∷ s) [] i c hs ht hc d e = absurd (omega (arith, d.one_length))
at_place (x ∷ s) (y ∷ t) zero c hs ht hc d e =
    let same : s ≡ t = ext_get_or 0 s t (omega (arith, d.one_length)) (λ k h. d.elsewhere (suc k) (λ p. omega arith)) in
    same_byte c x y hc (hs zero) (ht zero)
    (same_start t (feed c x) (feed c y) (λ k. ht (suc k)) (feed_word c x hc (hs zero)) (feed_word c y hc (ht zero))
    (ap (feed_all (feed c x)) (sym same) ∙ e))
at_place (x ∷ s) (y ∷ t) (suc i) c hs ht hc d e =
    let same : x ≡ y = d.elsewhere zero (λ p. omega arith) in
    at_place s t i (feed c y) (λ k. hs (suc k)) (λ k. ht (suc k)) (feed_word c y hc (ht zero))
    (record {
      one_length = omega (arith, d.one_length);
      within = le_of_suc-le-suc d.within;
      there = d.there;
      elsewhere = λ k h. d.elsewhere (suc k) (λ p. h (omega arith));
    })
    (ap (λ (z : ℕ). feed_all (feed c z) s) (sym same) ∙ e)

pub one_change : OneChange
unfolding crc32_of
one_change s t i hs ht d e =
    d.there
    (at_place s t i all_ones hs ht (lit< tt) d
    (omega (arith, e, feed_all_word s all_ones hs (lit< tt), feed_all_word t all_ones ht (lit< tt))))
