-- Rounds one after the other.
-- Assumes nothing.
use Rattle.std.proofs.Common.{◌≡◌, ℕ, suc, refl, ap₂, ◌∙◌}
use Rattle.blowfish.specs.declared.Block.{Block}
use Rattle.blowfish.specs.Cipher.{round, rounds, finish, cipher, block_number}

module _ (f p : ℕ → ℕ) (b : Block) where
  pub none : b ≡ rounds f p 0 b
  unfolding rounds
  none = refl

  pub next : (n : ℕ) {w : ℕ} {x y : Block} → w ≡ p n → y ≡ round f w x → x ≡ rounds f p n b → y ≡ rounds f p (suc n) b
  unfolding rounds
  next n word one e = one ∙ ap₂ (round f) word e

  pub sixteen : {v w : ℕ} {x : Block} → v ≡ p 16 → w ≡ p 17 → x ≡ rounds f p 16 b → block_number (finish v w x) ≡ block_number (cipher f p b)
  unfolding cipher
  sixteen word₁₇ word₁₈ e = cc
