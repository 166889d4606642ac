-- What day numbers promise: they follow the dates, without a gap.
use Rattle.std.specs.Prelude.{◌≡◌, true, ℕ, ◌+◌, ◌<◌}
use Rattle.dates.specs.Calendar.{is_date, day_number, next_date}

-- a later date has a greater number
abbrev pub Rising : Type 0
Rising = (a b : ℕ) → is_date a ≡ true → is_date b ≡ true → a < b → day_number a < day_number b

-- every date but the last has a date after it, with the next number
abbrev pub NoGap : Type 0
NoGap = (n : ℕ) → is_date n ≡ true → n < 29991231 → (is_date (next_date n) ≡ true) × (day_number (next_date n) ≡ day_number n + 1)
