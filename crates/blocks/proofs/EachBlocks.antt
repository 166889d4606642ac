-- Blocks put one after the other at the start of a slice are each block by itself, and what stood after them stays.
-- Assumes nothing.
use mathlib.Core.Path.{◌≡◌, refl, sym, ap, ◌∙◌}
use mathlib.Core.List.{List, [], ◌∷◌, ◌++◌, append_assoc}
use Prim.Native.Nat.{ℕ, zero, suc, ◌+◌, ◌*◌, ◌≤◌, ◌<◌}
use native.Mathlib.Nat.{add-zero, add-suc}
use native.Mathlib.Omega.{arith}
use borrow.Author.Tests.{ltb-true, ltb-false}
use lib.Dec.{ltb}
use lib.ListN.{length, get_or, take, drop, set, length-append, length-drop}
use lib.Seq.{length-take-le, take_at, drop-append-add, drop-drop, sets, sets-eq}
use Rattle.octets.specs.Numbers.{bytes_of}
use Rattle.octets.specs.Places.{number_at}
use Rattle.octets.proofs.Digits.{digits-length}
use Rattle.octets.proofs.Every.{either}
use Rattle.blocks.specs.Blocks.{each_block, blocks_of_both, blocks_put}
use Rattle.blocks.specs.Fours.{block_put, all_put}

pub each_block-length : (f : ℕ → ℕ) (n : ℕ) (s : List ℕ) → length (each_block f n s) ≡ 8 * n
unfolding each_block
each_block-length f zero s = refl
each_block-length f (suc n) s = simp (length-append, digits-length) (omega (arith, each_block-length f n s))

-- so many blocks lie within both
pub both_room : (s out : List ℕ) → (8 * blocks_of_both s out ≤ length s) × (8 * blocks_of_both s out ≤ length out)
both_room s out =
    either (ltb (length s) (length out))
    (λ e. rw e (let h = ltb-true (length s) (length out) e in (omega arith, omega arith)))
    (λ e. rw e (let h = ltb-false (length s) (length out) e in (omega arith, omega arith)))

module _ (f : ℕ → ℕ) (s out : List ℕ) where
  -- what stands there when the first n blocks are put
  abbrev pub worked : ℕ → List ℕ
  worked n = each_block f n s ++ drop (8 * n) out

  pub worked_none : out ≡ worked 0
  unfolding each_block
  worked_none = refl

  pub worked_length : (n : ℕ) → 8 * n ≤ length out → length (worked n) ≡ length out
  worked_length n h = simp (length-append, length-drop) (omega (arith, each_block-length f n s))

  -- one more
  pub worked_next : (n : ℕ) → block_put (8 * n) (f (number_at 8 s (8 * n))) (worked n) ≡ worked (suc n)
  unfolding block_put each_block
  worked_next n =
      let size = each_block-length f n s in
      let one_more : 8 * n + 8 ≡ 8 * suc n = omega arith in
      let rest : drop (8 * n + 8) (worked n) ≡ drop (8 * suc n) out =
      ap (λ (k : ℕ). drop (k + 8) (worked n)) (sym size)
      ∙ drop-append-add (each_block f n s) (drop (8 * n) out) 8
      ∙ drop-drop 8 (8 * n) out
      ∙ ap (λ (k : ℕ). drop k out) one_more in
      ap (λ (l : List ℕ). l ++ (bytes_of 8 (f (number_at 8 s (8 * n))) ++ drop (8 * n + 8) (worked n)))
      (take_at (each_block f n s) (drop (8 * n) out) (8 * n) size)
      ∙ ap (λ (l : List ℕ). each_block f n s ++ (bytes_of 8 (f (number_at 8 s (8 * n))) ++ l)) rest
      ∙ sym (append_assoc (each_block f n s) (bytes_of 8 (f (number_at 8 s (8 * n)))) (drop (8 * suc n) out))

  -- and up to four more, which are there as numbers
  module _ (n : ℕ) (xs : List ℕ) (four : (k : ℕ) → k < 4 → get_or xs k 0 ≡ f (number_at 8 s (8 * (n + k)))) where
    pub worked_more : (k : ℕ) → k ≤ 4 → all_put xs (8 * n) k (worked n) ≡ worked (n + k)
    unfolding all_put
    worked_more zero h = ap worked (sym (add-zero n))
    worked_more (suc k) h =
        let place : 8 * n + 8 * k ≡ 8 * (n + k) = omega arith in
        ap (block_put (8 * n + 8 * k) (get_or xs k 0)) (worked_more k (omega arith))
        ∙ ap (λ (x : ℕ). block_put (8 * n + 8 * k) x (worked (n + k))) (four k (omega arith))
        ∙ ap (λ (at : ℕ). block_put at (f (number_at 8 s (8 * (n + k)))) (worked (n + k))) place
        ∙ worked_next (n + k)
        ∙ ap worked (sym (add-suc n k))

-- a block alone
pub one_alone : (f : ℕ → ℕ) (s out : List ℕ) {x y : ℕ} {after : List ℕ} → blocks_of_both s out ≡ 1 → x ≡ number_at 8 s 0 → y ≡ f x → after ≡ block_put 0 y out
    → after ≡ blocks_put f s out
unfolding blocks_put
one_alone f s out {x} {y} {after} alone read made put =
    put
    ∙ ap (λ (z : ℕ). block_put 0 z out) (made ∙ ap f read)
    ∙ ap (block_put 0 (f (number_at 8 s 0))) (worked_none f s out)
    ∙ worked_next f s out 0
    ∙ ap (worked f s out) (sym alone)

-- the length of a slice stays
pub block_put-length : (at x : ℕ) (out : List ℕ) → at + 8 ≤ length out → length (block_put at x out) ≡ length out
unfolding block_put
block_put-length at x out h = simp (length-append, digits-length, length-drop) (omega (arith, length-take-le at out (omega arith)))

pub all_put-length : (xs : List ℕ) (at n : ℕ) (out : List ℕ) → at + 8 * n ≤ length out → length (all_put xs at n out) ≡ length out
unfolding all_put
all_put-length xs at zero out h = refl
all_put-length xs at (suc n) out h =
    let before = all_put-length xs at n out (omega arith) in
    block_put-length (at + 8 * n) (get_or xs n 0) (all_put xs at n out) (omega arith) ∙ before

-- eight stores in a row
pub eight_stores : (out : List ℕ) (at a b c d e f g h : ℕ) → at + 8 ≤ length out
    → set (set (set (set (set (set (set (set out at a) (at + 1) b) (at + 2) c) (at + 3) d) (at + 4) e) (at + 5) f) (at + 6) g) (at + 7) h
    ≡ take at out ++ ((a ∷ b ∷ c ∷ d ∷ e ∷ f ∷ g ∷ h ∷ []) ++ drop (at + 8) out)
eight_stores out at a b c d e f g h fits =
    let e₁ : at + 1 ≡ suc at = omega arith in
    let e₂ : at + 2 ≡ suc (suc at) = omega arith in
    let e₃ : at + 3 ≡ suc (suc (suc at)) = omega arith in
    let e₄ : at + 4 ≡ suc (suc (suc (suc at))) = omega arith in
    let e₅ : at + 5 ≡ suc (suc (suc (suc (suc at)))) = omega arith in
    let e₆ : at + 6 ≡ suc (suc (suc (suc (suc (suc at))))) = omega arith in
    let e₇ : at + 7 ≡ suc (suc (suc (suc (suc (suc (suc at)))))) = omega arith in
    let bytes : List ℕ = a ∷ b ∷ c ∷ d ∷ e ∷ f ∷ g ∷ h ∷ [] in
    let all : sets out at bytes ≡ take at out ++ (bytes ++ drop (at + 8) out) =
    sets-eq bytes out at fits ∙ append_assoc (take at out) bytes (drop (at + 8) out) in
    rw (e₁, e₂, e₃, e₄, e₅, e₆, e₇) all
