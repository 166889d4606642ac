-- The date and time that a file begins with.
use Rattle.std.specs.Prelude.{ℕ, Bool, ◌&&◌, List, ◌==◌, nat_lt, slice_index}
use Rattle.text.specs.Ascii.{byte, ascii}
use Rattle.text.specs.Characters.{is_digit, decimal_number}
use Rattle.text.specs.Texts.{part, all_at, stands_at}
use Rattle.forms.specs.DateText.{is_date_at}

-- the two digits at a place are a number below a limit
unfoldable pub is_below : ℕ → List ℕ → ℕ → Bool
is_below limit file at = all_at is_digit 2 file at && nat_lt (decimal_number (part 2 file at)) limit

-- what stands before the date
abbrev pub date_mark : List ℕ
date_mark = ascii ":DATE "

-- a file begins `:DATE YYYYMMDD HH:MM`: a date, and a time from 00:00 to 23:59
unfoldable pub is_dated : List ℕ → Bool
is_dated file =
    stands_at date_mark file 0 && is_date_at file 6
    && slice_index file 14 == (byte " ") && is_below 24 file 15 && slice_index file 17 == (byte ":") && is_below 60 file 18
