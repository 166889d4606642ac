-- The Gregorian calendar, years 1900 to 2999. A date is the number YYYYMMDD.
use Rattle.std.specs.Prelude.{ℕ, ◌+◌, ◌-◌, ◌*◌, ◌/◌, ◌%◌, Bool, cond, not, ◌&&◌, ◌||◌, List, [], ◌∷◌, leb, ltb, eqb, get_or, take}

-- the year of YYYYMMDD
unfoldable pub year : ℕ → ℕ
year n = n / 10000

-- its month
unfoldable pub month : ℕ → ℕ
month n = n / 100 % 100

-- its day
unfoldable pub day : ℕ → ℕ
day n = n % 100

-- every 4th year is a leap year, not every 100th, but every 400th
unfoldable pub is_leap : ℕ → Bool
is_leap y = eqb (y % 4) 0 && not (eqb (y % 100) 0) || eqb (y % 400) 0

-- the lengths of the twelve months, of a leap year or of another
unfoldable pub month_lengths : Bool → List ℕ
month_lengths leap = 31 ∷ cond leap 29 28 ∷ 31 ∷ 30 ∷ 31 ∷ 30 ∷ 31 ∷ 31 ∷ 30 ∷ 31 ∷ 30 ∷ 31 ∷ []

-- the days of a month of a year, months counted from 1
unfoldable pub days_in : ℕ → ℕ → ℕ
days_in y m = get_or (month_lengths (is_leap y)) (m - 1) 0

-- from low to high, both included
unfoldable pub within : ℕ → ℕ → ℕ → Bool
within low high n = leb low n && leb n high

-- a year from 1900 to 2999, a month from 1 to 12, a day of that month
unfoldable pub is_date : ℕ → Bool
is_date n = within 1900 2999 (year n) && within 1 12 (month n) && within 1 (days_in (year n) (month n)) (day n)

-- how many multiples of k are less than y
unfoldable pub multiples_below : ℕ → ℕ → ℕ
multiples_below k y = (y + (k - 1)) / k

-- the days of all years before a year: 365 each, and one more for each leap year
unfoldable pub days_before_year : ℕ → ℕ
days_before_year y = 365 * y + (multiples_below 4 y + multiples_below 400 y - multiples_below 100 y)

-- the numbers of a list, added
unfoldable pub sum : List ℕ → ℕ
sum [] = 0
sum (x ∷ xs) = x + sum xs

-- the days of the months of a year before a month
unfoldable pub days_before_month : ℕ → ℕ → ℕ
days_before_month y m = sum (take (m - 1) (month_lengths (is_leap y)))

-- the days from the first day of year 0, which is day 1, to a date; 0 for a number that is no date
unfoldable pub day_number : ℕ → ℕ
day_number n = cond (is_date n) (days_before_year (year n) + days_before_month (year n) (month n) + day n) 0

-- YYYYMMDD of a year, a month and a day
unfoldable pub date_of : ℕ → ℕ → ℕ → ℕ
date_of y m d = y * 10000 + m * 100 + d

-- the date after a date: the next day of the month, or the first of the next month, or of the next year
unfoldable pub next_date : ℕ → ℕ
next_date n =
    cond (ltb (day n) (days_in (year n) (month n))) (date_of (year n) (month n) (day n + 1))
    (cond (ltb (month n) 12) (date_of (year n) (month n + 1) 1) (date_of (year n + 1) 1 1))
