-- Where blocks are cut: some of them and those after them are all of them.
-- Assumes nothing.
use mathlib.Core.Path.{◌≡◌, refl, sym, ap, ap₂, ◌∙◌}
use mathlib.Core.List.{List, ◌++◌, append_assoc, append-nil}
use Prim.Native.Nat.{ℕ, zero, suc, ◌+◌, ◌*◌, ◌≤◌}
use native.Mathlib.Nat.{add-zero, add-suc}
use native.Mathlib.Omega.{arith}
use lib.ListN.{length, drop, take, length-append, length-drop}
use lib.Seq.{drop-append-le, take-append-le, drop-drop}
use Rattle.octets.specs.Numbers.{bytes_of, bytes_number}
use Rattle.octets.specs.Places.{number_at}
use Rattle.octets.proofs.Places.{number_within}
use Rattle.blocks.specs.Blocks.{each_block}

-- a number that lies within s is not changed by what follows s
pub number_before : (n : ℕ) (s t : List ℕ) (at : ℕ) → at + n ≤ length s → number_at n (s ++ t) at ≡ number_at n s at
number_before n s t at h =
    let room : n ≤ length (drop at s) = simp length-drop (omega arith) in
    number_within n (s ++ t) at (simp length-append (omega arith))
    ∙ ap (λ (l : List ℕ). bytes_number (take n l)) (drop-append-le at s t (omega arith))
    ∙ ap bytes_number (take-append-le n (drop at s) t room)
    ∙ sym (number_within n s at h)

-- a number after the first k bytes
pub number_after : (n k : ℕ) (s : List ℕ) (at : ℕ) → k + at + n ≤ length s → number_at n (drop k s) at ≡ number_at n s (k + at)
number_after n k s at h =
    number_within n (drop k s) at (simp length-drop (omega arith))
    ∙ ap (λ (l : List ℕ). bytes_number (take n l)) (drop-drop at k s)
    ∙ sym (number_within n s (k + at) h)

module _ (f : ℕ → ℕ) where
  -- blocks that lie within s are not changed by what follows s
  pub each_before : (n : ℕ) (s t : List ℕ) → 8 * n ≤ length s → each_block f n (s ++ t) ≡ each_block f n s
  unfolding each_block
  each_before zero s t h = refl
  each_before (suc n) s t h =
      ap₂ (λ (a : List ℕ) (x : ℕ). a ++ bytes_of 8 (f x)) (each_before n s t (omega arith)) (number_before 8 s t (8 * n) (omega arith))

  -- the first m blocks, and n after them
  pub each_cut : (m n : ℕ) (s : List ℕ) → 8 * (m + n) ≤ length s → each_block f (m + n) s ≡ each_block f m s ++ each_block f n (drop (8 * m) s)
  unfolding each_block
  each_cut m zero s h = rw (add-zero, append-nil)
  each_cut m (suc n) s h =
      let there : 8 * m + 8 * n ≡ 8 * (m + n) = omega arith in
      let same : number_at 8 (drop (8 * m) s) (8 * n) ≡ number_at 8 s (8 * (m + n)) = number_after 8 (8 * m) s (8 * n) (omega arith) ∙ ap (number_at 8 s) there in
      ap (λ (k : ℕ). each_block f k s) (add-suc m n)
      ∙ ap₂ (λ (a : List ℕ) (x : ℕ). a ++ bytes_of 8 (f x)) (each_cut m n s (omega arith)) (sym same)
      ∙ append_assoc (each_block f m s) (each_block f n (drop (8 * m) s)) (bytes_of 8 (f (number_at 8 (drop (8 * m) s) (8 * n))))
