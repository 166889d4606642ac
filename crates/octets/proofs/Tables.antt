-- A rule of a table holds at each entry if a test of the whole table, which antt computes, says so.
-- Assumes nothing.
use mathlib.Core.Path.{◌≡◌, refl, ◌∙◌, subst, sym}
use mathlib.Core.Bool.{Bool, true, false, ◌&&◌}
use mathlib.Core.List.{List, [], ◌∷◌}
use Prim.Native.Nat.{ℕ, zero, suc, ◌+◌, ◌<◌}
use native.Mathlib.Nat.{add-zero, zero-add, add-suc, suc-add, le_of_suc-le-suc, not-suc-le-zero}
use lib.Dec.{T}
use lib.ListN.{length, get_or, replicate, length-replicate}

-- the test holds of each entry and its place, the first place being i
abbrev pub each : (ℕ → ℕ → Bool) → ℕ → List ℕ → Bool
each test i [] = true
each test i (x ∷ xs) = test i x && each test (suc i) xs

first : (a b : Bool) → T (a && b) → T a
first true b t = tt
first false b t = t

rest : (a b : Bool) → T (a && b) → T b
rest true b t = t
rest false b t = absurd t

from : (test : ℕ → ℕ → Bool) (xs : List ℕ) (i : ℕ) → T (each test i xs) → (k : ℕ) → k < length xs → T (test (i + k) (get_or xs k 0))
from test [] i t k h = absurd (not-suc-le-zero h)
from test (x ∷ xs) i t zero h = subst (λ (m : ℕ). T (test m x)) (sym (add-zero i)) (first (test i x) (each test (suc i) xs) t)
from test (x ∷ xs) i t (suc k) h =
    subst (λ (m : ℕ). T (test m (get_or xs k 0))) (suc-add i k ∙ sym (add-suc i k))
    (from test xs (suc i) (rest (test i x) (each test (suc i) xs) t) k (le_of_suc-le-suc h))

pub at_each : (test : ℕ → ℕ → Bool) (xs : List ℕ) → T (each test 0 xs) → (k : ℕ) → k < length xs → T (test k (get_or xs k 0))
at_each test xs t k h = subst (λ (m : ℕ). T (test m (get_or xs k 0))) (zero-add k) (from test xs 0 t k h)

pub T_true : (t : Bool) → T t → t ≡ true
T_true true h = refl
T_true false h = absurd h

-- what the test says of each value below n, where antt computes it for all of them
pub computed : (n : ℕ) (test : ℕ → Bool) → T (each (λ (k x : ℕ). test k) 0 (replicate n 0)) → (v : ℕ) → v < n → T (test v)
computed n test t v fits = at_each (λ (k x : ℕ). test k) (replicate n 0) t v (rw length-replicate fits)
