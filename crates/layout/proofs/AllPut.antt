-- Things of one size put one after the other: what a loop has put so far, and that in the end all of them stand there.
-- Assumes nothing.
use mathlib.Core.Path.{◌≡◌, refl, sym, ap, ◌∙◌}
use mathlib.Core.List.{List, ◌++◌}
use Prim.Native.Nat.{ℕ, suc, ◌+◌, ◌-◌, ◌*◌, ◌≤◌, ◌<◌}
use native.Mathlib.Nat.{mul-suc}
use native.Mathlib.Omega.{arith}
use lib.ListN.{length}
use Rattle.text.specs.Texts.{placed}
use Rattle.text.proofs.PlacedTexts.{length-placed, placed_none, placed-next}
use Rattle.layout.specs.Layout.{all_bytes, each_from}
use Rattle.layout.proofs.Each.{each_count, bytes-size}

-- each has its place, and there are n
module _ (size : ℕ) {A : Type 0} (bytes : A → List ℕ) (place : ℕ → ℕ) (at : ℕ → A) (n : ℕ) where
  -- the bytes of m of them from i on
  abbrev bytes_from : ℕ → ℕ → List ℕ
  bytes_from i m = all_bytes bytes (each_from at i m)

  -- s with these put at their place
  abbrev put_from : ℕ → ℕ → List ℕ → List ℕ
  put_from i m s = placed (place i) (bytes_from i m) s

  -- s has those before i, and with those from i on it has them all
  pub record AllPut (s₀ s : List ℕ) (i : ℕ) : Type 0 where
    pub few : i ≤ n
    pub room : place i + size * (n - i) ≤ length s
    pub same : length s ≡ length s₀
    pub rest : put_from i (n - i) s ≡ put_from 0 n s₀

  pub put_none : {s₀ : List ℕ} → place 0 + size * n ≤ length s₀ → AllPut s₀ s₀ 0
  put_none {s₀} room =
      let all : n - 0 ≡ n = omega arith in
      record { few = omega arith; room = rw all room; same = refl; rest = ap (λ (m : ℕ). put_from 0 m s₀) all }

  module _ (sized : (x : A) → length (bytes x) ≡ size) (next : (i : ℕ) → place (suc i) ≡ place i + size) where
    module _ {s₀ s : List ℕ} {i : ℕ} (so_far : AllPut s₀ s i) where
      pub put_next : i < n → (s₁ : List ℕ) → s₁ ≡ placed (place i) (bytes (at i)) s → AllPut s₀ s₁ (i + 1)
      unfolding each_from all_bytes
      put_next more s₁ put =
          let m : ℕ = n - (i + 1) in
          let left : n - i ≡ suc m = omega arith in
          let up : i + 1 ≡ suc i = omega arith in
          let size-left : size * (n - i) ≡ size * m + size = ap (λ (k : ℕ). size * k) left ∙ mul-suc size m in
          let behind : place (i + 1) ≡ place i + size = ap place up ∙ next i in
          let after : List ℕ = bytes_from (i + 1) m in
          let one_size : length (bytes (at i)) ≡ size = sized (at i) in
          let after-size : length after ≡ size * m =
          bytes-size size bytes sized (each_from at (i + 1) m) ∙ ap (λ (k : ℕ). size * k) (each_count at (i + 1) m) in
          let same_size : length s₁ ≡ length s = ap length put ∙ length-placed (place i) (bytes (at i)) s in
          record {
            few = omega arith;
            room = omega (arith, so_far.room);
            same = same_size ∙ so_far.same;
            rest =
                ap (placed (place (i + 1)) after) put
                ∙ placed-next (place i) (place (i + 1)) (bytes (at i)) after s (omega arith) (omega (arith, so_far.room))
                ∙ ap (λ (u : ℕ). placed (place i) (bytes (at i) ++ bytes_from u m) s) up
                ∙ ap (λ (k : ℕ). put_from i k s) (sym left)
                ∙ so_far.rest;
          }

      pub put_all : n ≤ i → s ≡ put_from 0 n s₀
      unfolding each_from all_bytes
      put_all done =
          let none : 0 ≡ n - i = omega arith in
          sym (placed_none (place i) s) ∙ ap (λ (k : ℕ). put_from i k s) none ∙ so_far.rest
