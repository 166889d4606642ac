-- The twelve months of a year: the code's lengths and beginnings are those of the definitions, and each month begins where the one before ends.
-- Assumes nothing.
use mathlib.Core.Path.{◌≡◌, refl, sym}
use mathlib.Core.Logic.{◌⊎◌, inl, inr, ⊎_elim}
use mathlib.Core.Bool.{Bool, true, false, cond, ◌&&◌, ◌||◌, and-true}
use mathlib.Core.List.{List, [], ◌∷◌}
use Prim.Native.Nat.{ℕ, zero, suc, ◌+◌, ◌-◌, ◌*◌, ◌/◌, ◌≤◌, ◌<◌}
use native.Mathlib.Nat.{eq-or-lt_of_le}
use native.Mathlib.Omega.{arith}
use borrow.Author.Tests.{eqb-true, ne_eqb, le-leb}
use lib.Dec.{eqb, leb}
use lib.ListN.{get_or, take}
use Rattle.dates.specs.Calendar.{is_leap, month_lengths, days_in, within, sum, days_before_month}
use Rattle.dates.proofs.Bounds.{both, bounds}

-- a test holds of each number from 1 to n
abbrev up_to : (ℕ → Bool) → ℕ → Bool
up_to test zero = true
up_to test (suc n) = up_to test n && test (suc n)

up_to_lem : (test : ℕ → Bool) (n : ℕ) → up_to test n ≡ true → (m : ℕ) → 1 ≤ m → m ≤ n → test m ≡ true
up_to_lem test zero e m low high = absurd (omega arith)
up_to_lem test (suc n) e m low high =
    let (before, last) = both (up_to test n) (test (suc n)) e in
    ⊎_elim (λ at. rw at last) (λ below. up_to_lem test n before m low (omega arith)) (eq-or-lt_of_le high)

-- a test that antt computes for the twelve months of both kinds of year holds of each month
each-month : (test : Bool → ℕ → Bool) → up_to (test true) 12 ≡ true → up_to (test false) 12 ≡ true → (leap : Bool) (m : ℕ) → 1 ≤ m → m ≤ 12 → test leap m ≡ true
each-month test yes-leap no-leap true = up_to_lem (test true) 12 yes-leap
each-month test yes-leap no-leap false = up_to_lem (test false) 12 no-leap

-- the code's beginning of a month: as if February had 30 days, and from March on a day or two earlier
abbrev start : Bool → ℕ → ℕ
start leap m = (367 * m - 362) / 12 - cond (leb m 2) 0 (cond leap 1 2)

module _ (y m : ℕ) (low : 1 ≤ m) (high : m ≤ 12) where
  pub month_start : start (is_leap y) m ≡ days_before_month y m
  unfolding days_before_month month_lengths sum
  month_start =
      let test : Bool → ℕ → Bool = λ leap m. eqb (start leap m) (sum (take (m - 1) (month_lengths leap))) in
      eqb-true _ _ (each-month test refl refl (is_leap y) m low high)

  pub month_start_small : days_before_month y m ≤ 366
  month_start_small = omega (arith, month_start)

  pub month_long : (28 ≤ days_in y m) × (days_in y m ≤ 31)
  unfolding days_in within month_lengths
  month_long =
      let test : Bool → ℕ → Bool = λ leap m. within 28 31 (get_or (month_lengths leap) (m - 1) 0) in
      bounds _ _ _ (each-month test refl refl (is_leap y) m low high)

  -- every month has 28 days
  pub early_day : (d : ℕ) → d < 29 → within 1 (days_in y m) d ≡ leb 1 d
  unfolding within
  early_day d early = rw (le-leb d (days_in y m) (omega (arith, month_long.0)), and-true (leb 1 d))

pub late_day : (n d : ℕ) → 29 ≤ d → within 1 n d ≡ leb d n
unfolding within
late_day n d late = rw (le-leb 1 d (omega arith))

-- the lengths, in the code's order
pub february : (y m : ℕ) → m ≡ 2 → days_in y m ≡ cond (is_leap y) 29 28
unfolding days_in month_lengths
february y m e = rw e

-- April, June, September, November
abbrev Short : ℕ → Type 0
Short m = (m ≡ 4) ⊎ ((m ≡ 6) ⊎ ((m ≡ 9) ⊎ (m ≡ 11)))

pub thirty : (y m : ℕ) → Short m → days_in y m ≡ 30
unfolding days_in month_lengths
thirty y m = ⊎_elim (λ e. rw e) (⊎_elim (λ e. rw e) (⊎_elim (λ e. rw e) (λ e. rw e)))

pub thirty_one : (y m : ℕ) → 1 ≤ m → m ≤ 12 → (m ≡ 2 → ⊥) → (Short m → ⊥) → days_in y m ≡ 31
unfolding days_in month_lengths
thirty_one y m low high not-february not_IsShort =
    let test : Bool → ℕ → Bool = λ leap m. eqb m 2 || eqb m 4 || eqb m 6 || eqb m 9 || eqb m 11 || eqb (get_or (month_lengths leap) (m - 1) 0) 31 in
    eqb-true _ _
    (rw (
      ne_eqb m 2 not-february,
      ne_eqb m 4 (λ e. not_IsShort (inl e)),
      ne_eqb m 6 (λ e. not_IsShort (inr (inl e))),
      ne_eqb m 9 (λ e. not_IsShort (inr (inr (inl e)))),
      ne_eqb m 11 (λ e. not_IsShort (inr (inr (inr e)))),
    )
    at (each-month test refl refl (is_leap y) m low high))

pub sum-take : (xs : List ℕ) (k : ℕ) → sum (take (suc k) xs) ≡ sum (take k xs) + get_or xs k 0
unfolding sum
sum-take [] zero = refl
sum-take [] (suc k) = refl
sum-take (x ∷ xs) zero = omega arith
sum-take (x ∷ xs) (suc k) = omega (arith, sum-take xs k)

-- the days before the next month are those before this one, and its own
pub month_step : (y m : ℕ) → 1 ≤ m → days_before_month y (m + 1) ≡ days_before_month y m + days_in y m
unfolding days_before_month days_in
month_step y m low =
    let e : m + 1 - 1 ≡ suc (m - 1) = omega arith in
    rw e (sum-take (month_lengths (is_leap y)) (m - 1))

-- the days before the last month, and its own, are the whole year
pub year_end : (y : ℕ) → days_before_month y 12 + days_in y 12 ≡ sum (month_lengths (is_leap y))
unfolding days_before_month days_in month_lengths
year_end y = sym (sum-take (month_lengths (is_leap y)) 11)
