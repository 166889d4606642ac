-- Names that rise repeat none.
-- Assumes nothing.
use mathlib.Core.Path.{◌≡◌, refl}
use mathlib.Core.Bool.{true, false}
use mathlib.Core.List.{List, [], ◌∷◌}
use Prim.Native.Nat.{ℕ, ◌≤◌, ◌<◌}
use native.Mathlib.Omega.{arith}
use borrow.Author.Tests.{ltb-true, ne_eqb}
use lib.Dec.{ltb}
use Rattle.octets.proofs.Every.{and_first, and_second}
use Rattle.product_names.specs.Repeats.{stands_in, repeats}
use Rattle.products.specs.Reading.{rises_from}

-- a name stands nowhere among names that rise from it or from a later one
below_all : (x last : ℕ) → x ≤ last → (names : List ℕ) → rises_from last names ≡ true → stands_in x names ≡ false
unfolding stands_in rises_from
below_all x last h [] rises = refl
below_all x last h (y ∷ names) rises =
    let less : last < y = ltb-true last y (and_first (ltb last y) (rises_from y names) rises) in
    rw (ne_eqb x y (λ e. omega arith)) (below_all x y (omega arith) names (and_second (ltb last y) (rises_from y names) rises))

pub none_repeats : (last : ℕ) (names : List ℕ) → rises_from last names ≡ true → repeats names ≡ false
unfolding repeats rises_from
none_repeats last [] rises = refl
none_repeats last (x ∷ names) rises =
    let on = and_second (ltb last x) (rises_from x names) rises in
    rw (below_all x x (omega arith) names on) (none_repeats x names on)
