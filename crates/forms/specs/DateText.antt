-- Dates as text: eight digits, YYYYMMDD, at a place.
use Rattle.std.specs.Prelude.{Bool, cond, ◌&&◌, List, ℕ, None, Option, Some}
use Rattle.text.specs.Characters.{is_digit, decimal_number}
use Rattle.text.specs.Texts.{part, all_at}
use Rattle.dates.specs.Calendar.{is_date}

-- eight digits at a place are a date
unfoldable pub is_date_at : List ℕ → ℕ → Bool
is_date_at s at = all_at is_digit 8 s at && is_date (decimal_number (part 8 s at))

-- the date at a place as a number
unfoldable pub date_at : List ℕ → ℕ → Option ℕ
date_at s at = cond (is_date_at s at) (Some (decimal_number (part 8 s at))) None
