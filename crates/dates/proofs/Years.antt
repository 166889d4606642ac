-- Leap years in the code's order of tests, and that each year begins where the one before ends. Assumes nothing.
use mathlib.Core.Path.{◌≡◌}
use mathlib.Core.Bool.{true, false, and-true, and-false, or-true, or-false}
use Prim.Native.Nat.{ℕ, ◌+◌, ◌-◌, ◌*◌, ◌/◌, ◌%◌, ◌<◌, ◌≤◌}
use native.Mathlib.Decide.{ℕ_discrete}
use native.Mathlib.Nat.{div-add-mod', mod-lt, add-mul}
use native.Mathlib.Omega.{arith}
use borrow.Author.Tests.{eq-eqb, ne_eqb}
use lib.Arith.{digits_div}
use lib.Dec.{eqb, lit<}
use Rattle.dates.specs.Calendar.{is_leap, month_lengths, sum, multiples_below, days_before_year}

-- the multiples of k below y + 1 are those below y, and y if it is one
module _ (k y : ℕ) (h : 0 < k) where
  next : (y / k + 1) * k + y % k ≡ y + k
  next = omega (arith, add-mul (y / k) 1 k, div-add-mod' y k)

  one_more : y % k ≡ 0 → multiples_below k (y + 1) ≡ multiples_below k y + 1
  unfolding multiples_below
  one_more e =
      let a : y + 1 + (k - 1) ≡ (y / k + 1) * k + 0 = omega (arith, next) in
      let b : y + (k - 1) ≡ y / k * k + (k - 1) = omega (arith, div-add-mod' y k) in
      let l : k - 1 < k = omega arith in
      rw (a, b, digits_div (y / k + 1) {r = 0} h, digits_div (y / k) l)

  no_more : (y % k ≡ 0 → ⊥) → multiples_below k (y + 1) ≡ multiples_below k y
  unfolding multiples_below
  no_more n =
      let r : y % k < k = mod-lt y h in
      let l : y % k - 1 < k = omega arith in
      let a : y + 1 + (k - 1) ≡ (y / k + 1) * k + y % k = omega (arith, next) in
      let b : y + (k - 1) ≡ (y / k + 1) * k + (y % k - 1) = omega (arith, next) in
      rw (a, b, digits_div (y / k + 1) r, digits_div (y / k + 1) l)

module _ (y : ℕ) where
  pub leap_400 : y % 400 ≡ 0 → is_leap y ≡ true
  unfolding is_leap
  leap_400 h = rw (eq-eqb _ _ h, or-true)

  pub leap_100 : (y % 400 ≡ 0 → ⊥) → y % 100 ≡ 0 → is_leap y ≡ false
  unfolding is_leap
  leap_100 n h = rw (eq-eqb _ _ h, ne_eqb _ _ n, and-false)

  pub leap_4 : (y % 400 ≡ 0 → ⊥) → (y % 100 ≡ 0 → ⊥) → is_leap y ≡ eqb (y % 4) 0
  unfolding is_leap
  leap_4 n m = rw (ne_eqb _ _ n, ne_eqb _ _ m, and-true, or-false)

  -- so the difference that counts the leap years does not stop at 0
  fewer_hundreds : multiples_below 100 y ≤ multiples_below 4 y
  unfolding multiples_below
  fewer_hundreds = omega arith

  -- the days before the next year are those before this one, and its own
  pub year_step : days_before_year (y + 1) ≡ days_before_year y + sum (month_lengths (is_leap y))
  unfolding month_lengths sum days_before_year
  year_step = by-400 (ℕ_discrete (y % 400) 0)
    where
      Step : Type 0
      Step = days_before_year (y + 1) ≡ days_before_year y + sum (month_lengths (is_leap y))

      by_4 : (y % 400 ≡ 0 → ⊥) → (y % 100 ≡ 0 → ⊥) → Dec (y % 4 ≡ 0) → Step
      by_4 n m (yes h) =
          rw (leap_4 n m, eq-eqb _ _ h)
          (omega (arith, fewer_hundreds, one_more 4 y (lit< tt) h, no_more 100 y (lit< tt) m, no_more 400 y (lit< tt) n))
      by_4 n m (no l) =
          rw (leap_4 n m, ne_eqb _ _ l)
          (omega (arith, fewer_hundreds, no_more 4 y (lit< tt) l, no_more 100 y (lit< tt) m, no_more 400 y (lit< tt) n))

      by-100 : (y % 400 ≡ 0 → ⊥) → Dec (y % 100 ≡ 0) → Step
      by-100 n (yes h) =
          rw (leap_100 n h)
          (omega (arith, fewer_hundreds, one_more 4 y (lit< tt) (omega arith), one_more 100 y (lit< tt) h, no_more 400 y (lit< tt) n))
      by-100 n (no m) = by_4 n m (ℕ_discrete (y % 4) 0)

      by-400 : Dec (y % 400 ≡ 0) → Step
      by-400 (yes h) =
          rw (leap_400 h)
          (omega (arith, fewer_hundreds, one_more 4 y (lit< tt) (omega arith), one_more 100 y (lit< tt) (omega arith), one_more 400 y (lit< tt) h))
      by-400 (no n) = by-100 n (ℕ_discrete (y % 100) 0)
