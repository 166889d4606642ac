-- Day numbers rise strictly with the date, so two dates with one day number are equal. Assumes nothing.
use mathlib.Core.Path.{◌≡◌}
use mathlib.Core.Logic.{⊎_elim}
use mathlib.Core.Bool.{true}
use Prim.Native.Nat.{ℕ, suc, ◌+◌, ◌-◌, ◌<◌, ◌≤◌}
use native.Mathlib.Decide.{le_ind, dec_lt}
use native.Mathlib.Nat.{eq-or-lt_of_le}
use native.Mathlib.Numerals.{add-one}
use native.Mathlib.Omega.{arith}
use lib.ListN.{get_or, take}
use Rattle.dates.specs.Calendar.{year, month, day, is_leap, month_lengths, days_in, is_date, days_before_year, sum, days_before_month, day_number}
use Rattle.dates.specs.Order.{Rising}
use Rattle.dates.proofs.Parts.{Parts, Numbered, date_parts, put_together, number_of_date}
use Rattle.dates.proofs.Months.{sum-take}
use Rattle.dates.proofs.Years.{year_step}

-- where each part begins at f and is g long, and the next begins where it ends, a later one begins no earlier than that
one_after_another : (f g : ℕ → ℕ) → ((k : ℕ) → f (suc k) ≡ f k + g k) → (a b : ℕ) → a < b → f a + g a ≤ f b
one_after_another f g step a b h =
    le_ind (λ (m : ℕ). f a + g a ≤ f m) (omega (arith, step a)) (λ m _ le. omega (arith, step m)) b h

year-after : (y z : ℕ) → y < z → days_before_year y + sum (month_lengths (is_leap y)) ≤ days_before_year z
year-after = one_after_another days_before_year (λ y. sum (month_lengths (is_leap y))) (λ y. rw (← add-one) (year_step y))

month-after : (y m k : ℕ) → 1 ≤ m → m < k → days_before_month y m + days_in y m ≤ days_before_month y k
unfolding days_before_month days_in
month-after y m k low h =
    let xs = month_lengths (is_leap y) in
    one_after_another (λ j. sum (take j xs)) (λ j. get_or xs j 0) (sum-take xs) (m - 1) (k - 1) (omega arith)

-- a month ends within its year
month-within : (y m : ℕ) → 1 ≤ m → m ≤ 12 → days_before_month y m + days_in y m ≤ sum (month_lengths (is_leap y))
unfolding days_before_month month_lengths
month-within y m low high = month-after y m 13 low (omega arith)

-- the earlier date lies in an earlier year, in an earlier month of the same year, or on an earlier day of the same month
module _ (a b : ℕ) (p : Parts a) (q : Parts b) (m : Numbered a) (n : Numbered b) where
  earlier_year : year a < year b → day_number a < day_number b
  earlier_year h =
      omega (arith, year-after _ _ h, month-within (year a) (month a) p.month_low p.month_high)

  earlier_month : year a ≡ year b → month a < month b → day_number a < day_number b
  earlier_month y h =
      let e : days_before_year (year a) ≡ days_before_year (year b) = cc in
      let f : days_before_month (year a) (month b) ≡ days_before_month (year b) (month b) = cc in
      omega (arith, month-after (year a) (month a) (month b) p.month_low h)

  earlier_day : year a ≡ year b → month a ≡ month b → day a < day b → day_number a < day_number b
  earlier_day y h d =
      let e : days_before_year (year a) ≡ days_before_year (year b) = cc in
      let f : days_before_month (year a) (month a) ≡ days_before_month (year b) (month b) = cc in
      omega arith

  same_year : a < b → year a ≡ year b → day_number a < day_number b
  same_year h y =
      let u = put_together a in
      let v = put_together b in
      let months : month a ≤ month b = omega arith in
      ⊎_elim (λ e. earlier_day y e (omega arith)) (earlier_month y) (eq-or-lt_of_le months)

  by_parts : a < b → day_number a < day_number b
  by_parts h =
      let u = put_together a in
      let v = put_together b in
      let years : year a ≤ year b = omega arith in
      ⊎_elim (same_year h) earlier_year (eq-or-lt_of_le years)

pub rising : Rising
rising a b da db = by_parts a b (date_parts a da) (date_parts b db) (number_of_date a da) (number_of_date b db)

pub same_number_same_date : (a b : ℕ) → is_date a ≡ true → is_date b ≡ true → day_number a ≡ day_number b → a ≡ b
same_number_same_date a b da db e = go (dec_lt a b) (dec_lt b a)
  where
    go : Dec (a < b) → Dec (b < a) → a ≡ b
    go (yes h) d = absurd (omega (arith, rising a b da db h))
    go (no h) (yes k) = absurd (omega (arith, rising b a db da k))
    go (no h) (no k) = omega arith
