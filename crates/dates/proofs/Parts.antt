-- A number is a date if and only if its year, month and day are in their ranges. Assumes nothing.
use mathlib.Core.Path.{◌≡◌}
use mathlib.Core.Bool.{true, false, ◌&&◌}
use Prim.Native.Nat.{ℕ, ◌+◌, ◌*◌, ◌^◌, ◌<◌, ◌≤◌}
use native.Mathlib.Omega.{arith}
use Rattle.dates.specs.Calendar.{year, month, day, days_in, within, is_date, days_before_year, days_before_month, day_number}
use Rattle.dates.proofs.Bounds.{both, inside, bounds}

pub record Parts (n : ℕ) : Type 0 where
  pub year_low : 1900 ≤ year n
  pub year_high : year n ≤ 2999
  pub month_low : 1 ≤ month n
  pub month_high : month n ≤ 12
  pub day_low : 1 ≤ day n
  pub day_high : day n ≤ days_in (year n) (month n)

-- a date's number, by its parts
abbrev pub Numbered : ℕ → Type 0
Numbered n = day_number n ≡ days_before_year (year n) + days_before_month (year n) (month n) + day n

module _ (n : ℕ) where
  pub date_parts : is_date n ≡ true → Parts n
  unfolding is_date
  date_parts e =
      let (ym, d) = both (within 1900 2999 (year n) && within 1 12 (month n)) _ e in
      let (y, m) = both (within 1900 2999 (year n)) _ ym in
      let (yl, yh) = bounds _ _ _ y in
      let (ml, mh) = bounds _ _ _ m in
      let (dl, dh) = bounds _ _ _ d in
      record { year_low = yl; year_high = yh; month_low = ml; month_high = mh; day_low = dl; day_high = dh }

  pub parts_date : Parts n → is_date n ≡ true
  unfolding is_date
  parts_date p =
      rw (
        inside _ _ _ p.year_low p.year_high,
        inside _ _ _ p.month_low p.month_high,
        inside _ _ _ p.day_low p.day_high,
      )

  -- a number is its parts put together
  pub put_together : (n ≡ year n * 10000 + month n * 100 + day n) × (month n < 100) × (day n < 100)
  unfolding year month day
  put_together = omega arith

  -- eight digits hold it
  pub date_fits : is_date n ≡ true → n < 10 ^ 8
  unfolding year
  date_fits e = omega (arith, (date_parts e).year_high)

  pub number_of_date : is_date n ≡ true → Numbered n
  unfolding day_number
  number_of_date e = rw e

  pub number_of_none : is_date n ≡ false → day_number n ≡ 0
  unfolding day_number
  number_of_none e = rw e
