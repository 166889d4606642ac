-- Rounds of four blocks, one after the other.
-- Assumes nothing.
use mathlib.Core.Path.{◌≡◌, refl, ap, ap₂, ◌∙◌}
use Prim.Native.Nat.{ℕ, suc}
use Rattle.blowfish.specs.Cipher.{round, rounds, finish, cipher, block_number}
use Rattle.blowfish.specs.declared.Block.{Block}
use Rattle.blocks.specs.declared.Four.{Four}
use Rattle.blocks.specs.Fours.{each, listed}

-- four blocks are the same where each is
pub same_four : {a b c d a' b' c' d' : Block} → a ≡ a' → b ≡ b' → c ≡ c' → d ≡ d'
    → ◌≡◌ {A = Four} (record { a = a; b = b; c = c; d = d }) (record { a = a'; b = b'; c = c'; d = d' })
same_four p q r s = λ i. record { a = p i; b = q i; c = r i; d = s i }

module _ (f p : ℕ → ℕ) (b : Four) where
  pub next_four : (n : ℕ) {w : ℕ} {x y : Four} → w ≡ p n → y ≡ each (round f w) x → x ≡ each (rounds f p n) b → y ≡ each (rounds f p (suc n)) b
  unfolding rounds
  next_four n word one e = one ∙ ap₂ (λ (w : ℕ). each (round f w)) word e

  pub none_four : b ≡ each (rounds f p 0) b
  unfolding rounds
  none_four = refl

  pub sixteen_four : {v w : ℕ} {x : Four} → v ≡ p 16 → w ≡ p 17 → x ≡ each (rounds f p 16) b
      → listed (λ (y : Block). block_number (finish v w y)) x ≡ listed (λ (y : Block). block_number (cipher f p y)) b
  unfolding cipher
  sixteen_four {x = x} word₁₇ word₁₈ e =
      ap₂ (λ (v w : ℕ). listed (λ (y : Block). block_number (finish v w y)) x) word₁₇ word₁₈
      ∙ ap (listed (λ (y : Block). block_number (finish (p 16) (p 17) y))) e
