-- Laws of exclusive or that lib.Bits does not have: halves, grouping, cancelling.
-- Assumes nothing.
use mathlib.Core.Path.{◌≡◌, refl, sym, ap, ap₂, ◌∙◌}
use mathlib.Core.Logic.{◌⊎◌, inl, inr}
use Prim.Native.Nat.{ℕ, zero, suc, ◌+◌, ◌*◌, ◌/◌, ◌%◌, ◌<◌}
use native.Mathlib.Nat.{mod-lt, zero-lt-suc}
use native.Mathlib.Omega.{arith}
use lib.Arith.{bin_ind, digits_div, digits_mod}
use lib.Bits.{bit_xor, differ, xor_step, xor_self, xor_zero_r, xor_comm}

abbrev pub Bit : ℕ → Type 0
Bit x = (x ≡ 0) ⊎ (x ≡ 1)

below_two : (m : ℕ) → m < 2 → Bit m
below_two zero h = inl refl
below_two (suc zero) h = inr refl
below_two (suc (suc m)) h = absurd (omega arith)

pub low_bit : (n : ℕ) → Bit (n % 2)
low_bit n = below_two (n % 2) (mod-lt n (zero-lt-suc 1))

differ_lt : (x y : ℕ) → Bit x → Bit y → differ x y < 2
differ_lt x y (inl p) (inl q) = rw (p, q) (omega arith)
differ_lt x y (inl p) (inr q) = rw (p, q) (omega arith)
differ_lt x y (inr p) (inl q) = rw (p, q) (omega arith)
differ_lt x y (inr p) (inr q) = rw (p, q) (omega arith)

differ_assoc : (x y z : ℕ) → Bit x → Bit y → Bit z → differ (differ x y) z ≡ differ x (differ y z)
differ_assoc x y z (inl p) (inl q) (inl r) = rw (p, q, r)
differ_assoc x y z (inl p) (inl q) (inr r) = rw (p, q, r)
differ_assoc x y z (inl p) (inr q) (inl r) = rw (p, q, r)
differ_assoc x y z (inl p) (inr q) (inr r) = rw (p, q, r)
differ_assoc x y z (inr p) (inl q) (inl r) = rw (p, q, r)
differ_assoc x y z (inr p) (inl q) (inr r) = rw (p, q, r)
differ_assoc x y z (inr p) (inr q) (inl r) = rw (p, q, r)
differ_assoc x y z (inr p) (inr q) (inr r) = rw (p, q, r)

pub xor_half : (a b : ℕ) → bit_xor a b / 2 ≡ bit_xor (a / 2) (b / 2)
xor_half a b =
    ap (λ (x : ℕ). x / 2) (xor_step a b)
    ∙ digits_div (bit_xor (a / 2) (b / 2)) (differ_lt (a % 2) (b % 2) (low_bit a) (low_bit b))

pub xor_low : (a b : ℕ) → bit_xor a b % 2 ≡ differ (a % 2) (b % 2)
xor_low a b =
    ap (λ (x : ℕ). x % 2) (xor_step a b)
    ∙ digits_mod (bit_xor (a / 2) (b / 2)) (differ_lt (a % 2) (b % 2) (low_bit a) (low_bit b))

pub xor_assoc : (a b c : ℕ) → bit_xor (bit_xor a b) c ≡ bit_xor a (bit_xor b c)
xor_assoc a =
    bin_ind
    (λ (n : ℕ). (b c : ℕ) → bit_xor (bit_xor n b) c ≡ bit_xor n (bit_xor b c))
    (λ b c. refl)
    (λ n half b c. xor_step (bit_xor n b) c
    ∙ ap₂ (λ (x y : ℕ). bit_xor x (c / 2) * 2 + differ y (c % 2)) (xor_half n b) (xor_low n b)
    ∙ ap₂ (λ (x y : ℕ). x * 2 + y) (half (b / 2) (c / 2)) (differ_assoc (n % 2) (b % 2) (c % 2) (low_bit n) (low_bit b) (low_bit c))
    ∙ sym (ap₂ (λ (x y : ℕ). bit_xor (n / 2) x * 2 + differ (n % 2) y) (xor_half b c) (xor_low b c))
    ∙ sym (xor_step n (bit_xor b c)))
    a

pub xor_twice : (a b : ℕ) → bit_xor (bit_xor a b) b ≡ a
xor_twice a b = xor_assoc a b b ∙ ap (bit_xor a) (xor_self b) ∙ xor_zero_r a

pub xor_cancel_right : (a b c : ℕ) → bit_xor a c ≡ bit_xor b c → a ≡ b
xor_cancel_right a b c e = sym (xor_twice a c) ∙ ap (λ (x : ℕ). bit_xor x c) e ∙ xor_twice b c

pub xor_cancel_left : (a b c : ℕ) → bit_xor c a ≡ bit_xor c b → a ≡ b
xor_cancel_left a b c e = xor_cancel_right a b c (xor_comm a c ∙ e ∙ xor_comm c b)

pub xor_swap : (a b c : ℕ) → bit_xor (bit_xor a b) c ≡ bit_xor (bit_xor a c) b
xor_swap a b c = xor_assoc a b c ∙ ap (bit_xor a) (xor_comm b c) ∙ sym (xor_assoc a c b)

pub xor_pairs : (a b c d : ℕ) → bit_xor (bit_xor a b) (bit_xor c d) ≡ bit_xor (bit_xor a c) (bit_xor b d)
xor_pairs a b c d =
    sym (xor_assoc (bit_xor a b) c d) ∙ ap (λ (x : ℕ). bit_xor x d) (xor_swap a b c) ∙ xor_assoc (bit_xor a c) b d
