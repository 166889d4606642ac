-- Deciphering undoes enciphering, round by round, for every F and every P; and the other way round, since the far end of the far end is the near one.
-- Assumes nothing.
use Rattle.std.proofs.Common.{◌≡◌, ℕ, zero, suc, ◌+◌, ◌-◌, ◌<◌, refl, ap, ◌∙◌, ap₂, arith, lit<}
use lib.Bits.{bit_xor}
use Rattle.octets.proofs.Xor.{xor_twice, xor_swap}
use Rattle.blowfish.specs.declared.Block.{Block}
use Rattle.blowfish.specs.Cipher.{F, P, far_end, block, round, rounds, finish, cipher}
use Rattle.blowfish.specs.BackAgain.{DecipherAfterEncipher, EncipherAfterDecipher}

-- exchanged, and the words j and k combined
abbrev final : ℕ → ℕ → Block → Block
final j k b = block (bit_xor b.right j) (bit_xor b.left k)

-- a round takes back the round before it, and leaves the words of the round before that
round_back : (f : ℕ → ℕ) (j k m : ℕ) (b : Block) → round f j (final j k (round f m b)) ≡ final k m b
round_back f j k m b =
    let x = bit_xor b.left m in
    ap (λ (y : ℕ). block (bit_xor (bit_xor (bit_xor b.right (f x)) k) (f y)) y) (xor_twice x j)
    ∙ ap (λ (y : ℕ). block y x) (xor_swap (bit_xor b.right (f x)) k (f x) ∙ ap (λ (y : ℕ). bit_xor y k) (xor_twice b.right (f x)))

module _ (f p q : ℕ → ℕ) (far : (i : ℕ) → i < 18 → q i ≡ p (17 - i)) (b : Block) where
  -- after j of the rounds back, m are left
  rounds_back : (j m : ℕ) → j + m ≡ 16 → rounds f q j (final (p 17) (p 16) (rounds f p 16 b)) ≡ final (p (suc m)) (p m) (rounds f p m b)
  unfolding rounds
  rounds_back zero m e = let s : m ≡ 16 = omega arith in rw s
  rounds_back (suc j) m e =
      let s : 17 - j ≡ suc (suc m) = omega arith in
      ap₂ (λ (x : ℕ) (y : Block). round f x y) (far j (omega arith) ∙ ap p s) (rounds_back j (suc m) (omega arith))
      ∙ round_back f (p (suc (suc m))) (p (suc m)) (p m) (rounds f p m b)

  cipher_back : cipher f q (cipher f p b) ≡ b
  unfolding cipher rounds
  cipher_back =
      ap (finish (q 16) (q 17)) (rounds_back 16 0 refl)
      ∙ ap₂ block
      (ap (bit_xor (bit_xor b.left (p 0))) (far 17 (lit< tt)) ∙ xor_twice b.left (p 0))
      (ap (bit_xor (bit_xor b.right (p 1))) (far 16 (lit< tt)) ∙ xor_twice b.right (p 1))

pub decipher_after_encipher : DecipherAfterEncipher
decipher_after_encipher w b = cipher_back (F w) (P w) (far_end w) (λ i h. refl) b

pub encipher_after_decipher : EncipherAfterDecipher
encipher_after_decipher w b =
    cipher_back (F w) (far_end w) (P w) (λ i h. let e : i ≡ 17 - (17 - i) = omega arith in ap (P w) e) b
