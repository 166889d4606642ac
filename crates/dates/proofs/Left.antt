-- Day numbers are small, and on the day itself no day is left. Assumes nothing.
use mathlib.Core.Path.{◌≡◌, refl}
use mathlib.Core.Bool.{Bool, true, false}
use Prim.Native.Nat.{ℕ, ◌^◌, ◌<◌}
use native.Mathlib.Omega.{arith}
use lib.IntN.{pos}
use Rattle.std.proofs.lemmas.Int.{ints}
use Rattle.dates.specs.Calendar.{year, month, day, is_date, days_before_year, multiples_below, day_number}
use Rattle.dates.specs.Notice.{days_left}
use Rattle.dates.proofs.Months.{month_start_small}
use Rattle.dates.proofs.Parts.{date_parts, number_of_date, number_of_none}

small_by : (n : ℕ) (b : Bool) → is_date n ≡ b → day_number n < 2 ^ 30
unfolding days_before_year multiples_below day
small_by n true is =
    let p = date_parts n is in
    rw (number_of_date n is) (omega (arith, p.year_high, month_start_small (year n) (month n) p.month_low p.month_high))
small_by n false none = rw (number_of_none n none) (omega arith)

-- so a signed number holds each, and the difference of two
pub number_small : (n : ℕ) → day_number n < 2 ^ 30
number_small n = small_by n (is_date n) refl

pub same_day_lem : (d : ℕ) → days_left d d ≡ pos 0
unfolding days_left
same_day_lem d = omega (arith, ints)
