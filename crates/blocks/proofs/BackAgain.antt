-- What is undone block by block: where g undoes f on every block, what f made of whole blocks g makes these blocks again.
-- Assumes nothing.
use mathlib.Core.Path.{◌≡◌, refl, sym, ap, ap₂, ◌∙◌}
use mathlib.Core.List.{List, [], ◌++◌, append-nil}
use Prim.Native.Nat.{ℕ, zero, suc, ◌+◌, ◌*◌, ◌^◌, ◌≤◌, ◌<◌}
use native.Mathlib.Nat.{mod-eq_of_lt}
use native.Mathlib.Omega.{arith}
use lib.ListN.{length, take}
use lib.Seq.{take-add}
use Rattle.octets.specs.Numbers.{Below, bytes_of}
use Rattle.octets.specs.Places.{number_at}
use Rattle.octets.proofs.Places.{bytes_at, number_at_below, number_written}
use Rattle.blocks.specs.Blocks.{each_block}
use Rattle.blocks.proofs.EachBlocks.{each_block-length}
use Rattle.blocks.proofs.Cuts.{each_before}

-- the number at the end of a list, where the eight bytes of y were put
pub last_number : (a : List ℕ) (n y : ℕ) → length a ≡ n → y < 2 ^ 64 → number_at 8 (a ++ bytes_of 8 y) n ≡ y
last_number a n y size fits =
    ap₂ (λ (l : List ℕ) (k : ℕ). number_at 8 (a ++ l) k) (sym (append-nil (bytes_of 8 y))) (sym size)
    ∙ number_written 8 y a []
    ∙ mod-eq_of_lt fits

-- a block by itself
pub one_block : (f : ℕ → ℕ) (y : ℕ) → y < 2 ^ 64 → each_block f 1 (bytes_of 8 y) ≡ bytes_of 8 (f y)
unfolding each_block
one_block f y fits = ap (λ (x : ℕ). bytes_of 8 (f x)) (last_number [] 0 y refl fits)

module _ (f g : ℕ → ℕ) (blocks : (x : ℕ) → x < 2 ^ 64 → f x < 2 ^ 64) (undone : (x : ℕ) → x < 2 ^ 64 → g (f x) ≡ x) where
  pub each_back : (n : ℕ) (s : List ℕ) → Below 256 s → 8 * n ≤ length s → each_block g n (each_block f n s) ≡ take (8 * n) s
  unfolding each_block
  each_back zero s below h = refl
  each_back (suc n) s below h =
      let x = number_at 8 s (8 * n) in
      let small : x < 2 ^ 64 = number_at_below 8 s (8 * n) below in
      let size = each_block-length f n s in
      let end : 8 * n + 8 ≡ 8 * suc n = omega arith in
      ap₂ (λ (a : List ℕ) (y : ℕ). a ++ bytes_of 8 (g y))
      (each_before g n (each_block f n s) (bytes_of 8 (f x)) (omega (arith, size)) ∙ each_back n s below (omega arith))
      (last_number (each_block f n s) (8 * n) (f x) size (blocks x small))
      ∙ ap (λ (y : ℕ). take (8 * n) s ++ bytes_of 8 y) (undone x small)
      ∙ ap (λ (l : List ℕ). take (8 * n) s ++ l) (bytes_at 8 s (8 * n) below (omega arith))
      ∙ sym (take-add (8 * n) 8 s)
      ∙ ap (λ (k : ℕ). take k s) end
