-- Day numbers leave no gap: the date after a date has the next number. Assumes nothing.
use mathlib.Core.Path.{◌≡◌, refl, ◌∙◌}
use mathlib.Core.Logic.{⊎_elim}
use mathlib.Core.Bool.{true}
use Prim.Native.Nat.{ℕ, ◌+◌, ◌<◌, ◌≤◌}
use native.Mathlib.Nat.{eq-or-lt_of_le}
use native.Mathlib.Omega.{arith}
use borrow.Author.Tests.{lt-ltb, le-ltb}
use lib.Dec.{lit≤}
use Rattle.dates.specs.Calendar.{year, month, day, is_leap, month_lengths, days_in, is_date, days_before_year, sum, days_before_month, day_number, date_of, next_date}
use Rattle.dates.specs.Order.{NoGap}
use Rattle.dates.proofs.Months.{month_long, month_step, year_end}
use Rattle.dates.proofs.Years.{year_step}
use Rattle.dates.proofs.Parts.{Parts, Numbered, date_parts, parts_date, put_together, number_of_date}

abbrev DateAt : ℕ → ℕ → Type 0
DateAt n number = (is_date n ≡ true) × (day_number n ≡ number)

-- the parts of a number that is put together from them
module _ (y m d : ℕ) (month-small : m < 100) (day-small : d < 100) where
  year_back : year (date_of y m d) ≡ y
  unfolding year date_of
  year_back = omega arith

  month_back : month (date_of y m d) ≡ m
  unfolding month date_of
  month_back = omega arith

  day_back : day (date_of y m d) ≡ d
  unfolding day date_of
  day_back = omega arith

date_of_lem : (y m d number : ℕ) → 1900 ≤ y → y ≤ 2999 → 1 ≤ m → m ≤ 12 → 1 ≤ d → d ≤ days_in y m → days_before_year y + days_before_month y m + d ≡ number → DateAt (date_of y m d) number
date_of_lem y m d number yl yh ml mh dl dh e =
    let long = month_long y m ml mh in
    let ys = year_back y m d (omega arith) (omega arith) in
    let ms = month_back y m d (omega arith) (omega arith) in
    let ds = day_back y m d (omega arith) (omega arith) in
    let date = parts_date (date_of y m d) record {
      year_low = rw ys yl;
      year_high = rw ys yh;
      month_low = rw ms ml;
      month_high = rw ms mh;
      day_low = rw ds dl;
      day_high = rw (ys, ms, ds) dh;
    } in
    (date, number_of_date _ date ∙ rw (ys, ms, ds) e)

module _ (n : ℕ) (p : Parts n) (number : Numbered n) where
  within-month : day n < days_in (year n) (month n) → DateAt (date_of (year n) (month n) (day n + 1)) (day_number n + 1)
  within-month h =
      date_of_lem _ _ _ _ p.year_low p.year_high p.month_low p.month_high (omega arith) (omega arith) (omega arith)

  next-month : day n ≡ days_in (year n) (month n) → month n < 12 → DateAt (date_of (year n) (month n + 1) 1) (day_number n + 1)
  next-month last h =
      let long = month_long (year n) (month n + 1) (omega arith) (omega arith) in
      let step = month_step (year n) (month n) p.month_low in
      date_of_lem _ _ _ _ p.year_low p.year_high (omega arith) (omega arith) (omega arith) (omega arith) (omega arith)

  next-year : day n ≡ days_in (year n) (month n) → month n ≡ 12 → n < 29991231 → DateAt (date_of (year n + 1) 1 1) (day_number n + 1)
  unfolding days_in month_lengths days_before_month sum
  next-year last december h =
      let whole = put_together n in
      let thirty-first : day n ≡ 31 = last ∙ rw december in
      let long = month_long (year n + 1) 1 (lit≤ tt) (lit≤ tt) in
      let first : days_before_month (year n + 1) 1 ≡ 0 = refl in
      let before : days_before_month (year n) (month n) + 31 ≡ sum (month_lengths (is_leap (year n))) = rw december (year_end (year n)) in
      let step = year_step (year n) in
      date_of_lem (year n + 1) 1 1 _ (omega arith) (omega arith) (lit≤ tt) (lit≤ tt) (lit≤ tt) (omega arith) (omega arith)

  -- past the last day of a month
  after-month : day n ≡ days_in (year n) (month n) → n < 29991231 → DateAt (next_date n) (day_number n + 1)
  unfolding next_date
  after-month last h =
      let over : days_in (year n) (month n) ≤ day n = omega arith in
      let year-over : month n ≡ 12 → 12 ≤ month n = λ e. omega arith in
      rw (le-ltb _ _ over)
      (⊎_elim
      (λ e. rw (le-ltb (month n) 12 (year-over e)) (next-year last e h))
      (λ m. rw (lt-ltb (month n) 12 m) (next-month last m))
      (eq-or-lt_of_le p.month_high))

  after : n < 29991231 → DateAt (next_date n) (day_number n + 1)
  unfolding next_date
  after h =
      ⊎_elim (λ last. after-month last h) (λ d. rw (lt-ltb (day n) _ d) (within-month d)) (eq-or-lt_of_le p.day_high)

pub no_gap : NoGap
no_gap n date = after n (date_parts n date) (number_of_date n date)
