-- The first line's parts, and that an input that it does not refuse is refused as its file is.
-- Assumes nothing.
use Rattle.std.specs.Prelude.{Some, Ok}
use mathlib.Core.Path.{◌≡◌, ap}
use mathlib.Core.Bool.{Bool, true, ◌&&◌}
use mathlib.Core.List.{List}
use Prim.Native.Nat.{ℕ, ◌^◌, ◌≤◌, ◌<◌}
use native.Mathlib.Omega.{arith}
use borrow.Author.Tests.{le-leb}
use lib.Dec.{eqb}
use lib.ListN.{length, get_or, length-take, length-drop}
use Rattle.octets.proofs.Every.{and_first, and_second}
use Rattle.text.specs.Characters.{is_digit}
use Rattle.text.specs.Texts.{part, all_at, stands_at, decimal_at}
use Rattle.text.proofs.NumbersAt.{decimal_number_lem, decimal_bound}
use Rattle.text.proofs.SameTexts.{same_true}
use Rattle.forms.specs.Refusals.{done_or}
use Rattle.cell_permit.specs.CellPermit.{line_end}
use Rattle.cell_permit.specs.Line.{given_answer}
use Rattle.permit_file.specs.File.{open_of}
use Rattle.report.specs.LookThrough.{is_first_line, hw_of, today_of, days_of, file_of, start_answer}

module _ (input : List ℕ) where
  -- the two blanks
  abbrev blanks : Bool
  blanks = eqb (get_or input 5 0) 32 && eqb (get_or input 14 0) 32

  abbrev front : Bool
  front = blanks && all_at is_digit 2 input 15

  abbrev ended : Bool
  ended = stands_at line_end input 17

  pub first_within : is_first_line input ≡ true → 19 ≤ length input
  unfolding is_first_line
  first_within good =
      omega (arith, simp (length-take, length-drop) at (ap length (same_true (part 2 input 17) line_end (and_second front ended good))))

  pub days_digits : is_first_line input ≡ true → all_at is_digit 2 input 15 ≡ true
  unfolding is_first_line
  days_digits good = and_second blanks (all_at is_digit 2 input 15) (and_first front ended good)

  pub number_below : (n at x : ℕ) → decimal_at n input at ≡ Some x → x < 10 ^ n
  number_below n at x made = let known = decimal_number_lem n input at x made in rw known.1 (decimal_bound n input at known.0)

  -- what opening its file says is said of an input whose first line is good
  pub by-opening : length input ≤ 65536 → is_first_line input ≡ true → given_answer (hw_of input) (today_of input) (days_of input) ≡ Ok tt
      → done_or (open_of (file_of input)) ≡ start_answer input
  unfolding start_answer
  by-opening size good given = rw (le-leb (length input) 65536 size, good, given)
