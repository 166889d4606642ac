-- A test of each byte, and how many of a list pass one.
use Rattle.std.specs.Prelude.{Bool, true, cond, ◌&&◌, List, [], ◌∷◌, ℕ, suc}

-- each byte passes the test
unfoldable pub all_of : (ℕ → Bool) → List ℕ → Bool
all_of test [] = true
all_of test (c ∷ s) = test c && all_of test s

-- how many pass the test
unfoldable pub count_of : {A : Type 0} → (A → Bool) → List A → ℕ
count_of test [] = 0
count_of test (x ∷ l) = cond (test x) (suc (count_of test l)) (count_of test l)
