-- Words of 32 bits that together make pi_fraction are the starting words; and the bits cut off below it.
-- Assumes nothing.
use mathlib.Core.Path.{◌≡◌, sym, ap, ap₂, ◌∙◌}
use mathlib.Core.Bool.{Bool}
use mathlib.Core.List.{List}
use Prim.Native.Nat.{ℕ, ◌^◌, ◌<◌}
use native.Mathlib.Decide.{dec_lt}
use native.Mathlib.Omega.{arith}
use lib.Dec.{T, ltb, eqb, ltb→lt, eqb→eq}
use lib.ListN.{length, get_or, get_or-eq_default}
use lib.Seq.{sets}
use Rattle.octets.specs.Numbers.{value, digits}
use Rattle.octets.proofs.Digits.{digits_value}
use Rattle.octets.proofs.Tables.{each, at_each}
use Rattle.pi.specs.Pi.{series, pi_times, pi_fraction, guard_bits, GuardBitsFar, start_words}
use Rattle.pi.specs.Overlaid.{Overlaid}

abbrev pub is_word : ℕ → ℕ → Bool
is_word k w = ltb w (2 ^ 32)

module _ (ws : List ℕ) (tested : T (each is_word 0 ws)) where
  word : (k : ℕ) → Dec (k < length ws) → get_or ws k 0 < 2 ^ 32
  word k (yes h) = ltb→lt (get_or ws k 0) (2 ^ 32) (at_each is_word ws tested k h)
  word k (no h) = omega (arith, get_or-eq_default ws 0 {n = k} (omega arith))

  from_pi : length ws ≡ 1042 → T (eqb (value (2 ^ 32) ws) pi_fraction) → ws ≡ start_words
  unfolding start_words
  from_pi long same =
      sym (digits_value ws (λ k. word k (dec_lt k (length ws))))
      ∙ ap₂ (digits (2 ^ 32)) long (eqb→eq (value (2 ^ 32) ws) pi_fraction same)

-- five tables put one over the other
abbrev stacked : List ℕ → List ℕ → List ℕ → List ℕ → List ℕ → List ℕ → List ℕ
stacked l p s₁ s₂ s₃ s₄ = sets (sets (sets (sets (sets l 0 p) 18 s₁) 274 s₂) 530 s₃) 786 s₄

pub tables_are_pi : {l l₁ l₂ l₃ l₄ l₅ p s₁ s₂ s₃ s₄ : List ℕ}
    → Overlaid l 0 p l₁ → Overlaid l₁ 18 s₁ l₂ → Overlaid l₂ 274 s₂ l₃ → Overlaid l₃ 530 s₃ l₄ → Overlaid l₄ 786 s₄ l₅
    → T (each is_word 0 (stacked l p s₁ s₂ s₃ s₄)) → length (stacked l p s₁ s₂ s₃ s₄) ≡ 1042 → T (eqb (value (2 ^ 32) (stacked l p s₁ s₂ s₃ s₄)) pi_fraction)
    → l₅ ≡ start_words
tables_are_pi {l} {p = p} {s₁ = s₁} {s₂ = s₂} {s₃ = s₃} {s₄ = s₄} o₁ o₂ o₃ o₄ o₅ words long same =
    o₅.same
    ∙ ap (λ (m : List ℕ). sets m 786 s₄)
    (o₄.same ∙ ap (λ (m : List ℕ). sets m 530 s₃) (o₃.same ∙ ap (λ (m : List ℕ). sets m 274 s₂) (o₂.same ∙ ap (λ (m : List ℕ). sets m 18 s₁) o₁.same)))
    ∙ from_pi (stacked l p s₁ s₂ s₃ s₄) words long same

-- the 64 bits that are cut off, computed
guard_bits_lem : guard_bits ≡ 0xb83acb0220023ba8
unfolding series pi_times guard_bits
guard_bits_lem = eqb→eq guard_bits 0xb83acb0220023ba8 tt

pub guard_bits_far : GuardBitsFar
guard_bits_far = (omega (arith, guard_bits_lem), omega (arith, guard_bits_lem))
