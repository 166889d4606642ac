-- What the test of a range says. Assumes nothing.
use mathlib.Core.Path.{◌≡◌, refl}
use mathlib.Core.Bool.{Bool, true, false, ◌&&◌, false≢true}
use Prim.Native.Nat.{ℕ, ◌≤◌}
use borrow.Author.Tests.{le-leb, leb-true}
use lib.Dec.{leb}
use Rattle.dates.specs.Calendar.{within}

pub both : (a b : Bool) → a && b ≡ true → (a ≡ true) × (b ≡ true)
both true b e = (refl, e)
both false b e = absurd (false≢true e)

module _ (low high n : ℕ) where
  pub inside : low ≤ n → n ≤ high → within low high n ≡ true
  unfolding within
  inside l h = rw (le-leb _ _ l, le-leb _ _ h)

  pub bounds : within low high n ≡ true → (low ≤ n) × (n ≤ high)
  unfolding within
  bounds e = let (l, h) = both (leb low n) (leb n high) e in (leb-true _ _ l, leb-true _ _ h)
