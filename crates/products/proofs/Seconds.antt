-- A date and time are as good with seconds as without.
-- Assumes nothing.
use mathlib.Core.Path.{◌≡◌, sym, ap, ◌∙◌}
use mathlib.Core.Bool.{true}
use mathlib.Core.List.{List, ◌∷◌, ◌++◌}
use Prim.Native.Nat.{ℕ, ◌+◌, ◌≤◌}
use native.Mathlib.Omega.{arith}
use borrow.Author.Tests.{le-leb}
use lib.ListN.{length, get_or, take, drop, length-append, length-drop, get_or-append}
use lib.Seq.{take-append-le, drop-append-le, drop-append-add, get_or-append_seam}
use Rattle.text.specs.Ascii.{ascii}
use Rattle.text.specs.Characters.{is_digit}
use Rattle.text.specs.Texts.{part, all_at}
use Rattle.forms.specs.DateText.{is_date_at}
use Rattle.file_lines.specs.Dated.{is_below, is_dated}
use Rattle.products.specs.Listing.{is_time_end, is_date_line}
use Rattle.products.specs.Promises.{SecondsOrNot}

-- a place within the first of two texts
module _ (s t : List ℕ) where
  part-within : (n at : ℕ) → at + n ≤ length s → part n (s ++ t) at ≡ part n s at
  part-within n at h =
      ap (take n) (drop-append-le at s t (omega arith)) ∙ take-append-le n (drop at s) t (omega (arith, length-drop at s))

  all_within : (n at : ℕ) → at + n ≤ length s → all_at is_digit n (s ++ t) at ≡ all_at is_digit n s at
  unfolding all_at
  all_within n at h =
      rw (part-within n at h, le-leb (at + n) (length s) h, le-leb (at + n) (length (s ++ t)) (simp length-append (omega arith)))

  below_within : (limit at : ℕ) → at + 2 ≤ length s → is_below limit (s ++ t) at ≡ is_below limit s at
  unfolding is_below
  below_within limit at h = rw (all_within 2 at h, part-within 2 at h)

  date_within : 14 ≤ length s → is_date_at (s ++ t) 6 ≡ is_date_at s 6
  unfolding is_date_at
  date_within h = rw (all_within 8 6 (omega arith), part-within 8 6 (omega arith))

  dated_within : 20 ≤ length s → is_dated (s ++ t) ≡ is_dated s
  unfolding is_dated
  dated_within h =
      rw (
        part-within 6 0 (omega arith),
        date_within (omega arith),
        get_or-append s t 0 14 (omega arith),
        below_within 24 15 (omega arith),
        get_or-append s t 0 17 (omega arith),
        below_within 60 18 (omega arith),
      )

module _ (line seconds : List ℕ) (size : length line ≡ 20) (two : length seconds ≡ 2) where
  abbrev long : List ℕ
  long = line ++ (ascii ":" ++ seconds)

  long_size : length long ≡ 23
  long_size = simp length-append (omega (arith, size, two))

  colon : get_or long 20 0 ≡ 58
  colon = ap (λ (n : ℕ). get_or long n 0) (sym size) ∙ get_or-append_seam line 58 seconds 0

  behind_colon : drop 21 long ≡ seconds
  behind_colon =
      let e : 21 ≡ length line + 1 = omega (arith, size) in
      ap (λ (n : ℕ). drop n long) e ∙ drop-append-add line (58 ∷ seconds) 1

  below_same : is_below 60 long 21 ≡ is_below 60 seconds 0
  unfolding is_below all_at
  below_same =
      rw (behind_colon, le-leb 23 (length long) (omega (arith, long_size)), le-leb 2 (length seconds) (omega (arith, two)))

  with_seconds : is_below 60 seconds 0 ≡ true → is_time_end long ≡ true
  unfolding is_time_end
  with_seconds below = rw (long_size, colon, below_same, below)

  without : is_time_end line ≡ true
  unfolding is_time_end
  without = rw size

pub seconds_or_not : SecondsOrNot
unfolding is_date_line
seconds_or_not line seconds size two below =
    rw (dated_within line (ascii ":" ++ seconds) (omega (arith, size)), with_seconds line seconds size two below, without line seconds size two)
