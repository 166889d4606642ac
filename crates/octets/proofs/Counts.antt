-- How many of a list pass a test: of two lists in a row, of one more in front.
-- Assumes nothing.
use mathlib.Core.Path.{◌≡◌}
use mathlib.Core.Bool.{Bool, true, false}
use mathlib.Core.List.{List, [], ◌∷◌, ◌++◌}
use Prim.Native.Nat.{suc, ◌+◌}
use native.Mathlib.Omega.{arith}
use Rattle.octets.specs.Every.{count_of}
use Rattle.octets.proofs.Every.{either}

module _ {A : Type 0} (test : A → Bool) where
  pub count_append : (l more : List A) → count_of test (l ++ more) ≡ count_of test l + count_of test more
  unfolding count_of
  count_append [] more = omega arith
  count_append (x ∷ l) more =
      let rest = count_append l more in
      either (test x) (λ passes. rw passes (omega arith)) (λ fails. rw fails (omega arith))

  module _ (x : A) (l : List A) where
    pub count-passes : test x ≡ true → count_of test (x ∷ l) ≡ suc (count_of test l)
    unfolding count_of
    count-passes passes = rw passes

    pub count-fails : test x ≡ false → count_of test (x ∷ l) ≡ count_of test l
    unfolding count_of
    count-fails fails = rw fails
