-- The tests of the date and time that a file begins with, up to each.
-- Assumes nothing.
use Rattle.std.proofs.Common.{ℕ, Bool, ◌&&◌, eqb, List, get_or}
use Rattle.text.specs.Texts.{stands_at}
use Rattle.forms.specs.DateText.{is_date_at}
use Rattle.file_lines.specs.Dated.{date_mark, is_below}

-- a file is dated so far: through `:DATE `, the date, the blank, the hour, the colon
module _ (file : List ℕ) where
  abbrev pub to_start : Bool
  to_start = stands_at date_mark file 0

  abbrev pub to_date : Bool
  to_date = to_start && is_date_at file 6

  abbrev pub to_blank : Bool
  to_blank = to_date && eqb (get_or file 14 0) 32

  abbrev pub to_hour : Bool
  to_hour = to_blank && is_below 24 file 15

  abbrev pub to_colon : Bool
  to_colon = to_hour && eqb (get_or file 17 0) 58
