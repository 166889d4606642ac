-- The number of a field of digits, read at its place.
-- Assumes nothing.
use mathlib.Core.Path.{◌≡◌, sym, ap, ◌∙◌}
use mathlib.Core.Bool.{true, not, ◌&&◌, ◌||◌}
use mathlib.Core.List.{List, ◌∷◌}
use Prim.Native.Nat.{ℕ, suc, ◌+◌, ◌*◌, ◌≤◌, ◌<◌}
use native.Mathlib.Omega.{arith}
use borrow.Author.Tests.{leb-true}
use lib.Dec.{leb, eqb}
use lib.ListN.{length, get_or, drop}
use lib.Seq.{drop-cons}
use Rattle.octets.specs.Every.{all_of}
use Rattle.octets.specs.Numbers.{value}
use Rattle.octets.proofs.Every.{and_first, and_second}
use Rattle.text.specs.Characters.{is_digit, digit_value, decimal_number}
use Rattle.product_row.specs.Fields.{or_blank, is_digits, is_number}
use Rattle.product_row.specs.Taking.{field_length, field_ends, field_at}
use Rattle.product_row.proofs.FieldPlaces.{field_size, within}
use Rattle.product_row.proofs.BlankFields.{blank_field, unblank_field}

-- a number is of digits, n at most
module _ (n low : ℕ) (f : List ℕ) (number : is_number n low f ≡ true) where
  digits : is_digits n f ≡ true
  unfolding is_number
  digits =
      let zeros = eqb (length f) 1 || not (eqb (get_or f 0 0) 48) in
      and_first (is_digits n f) zeros (and_first (is_digits n f && zeros) (leb low (decimal_number f)) number)

  number_few : length f ≤ n
  unfolding is_digits
  number_few = leb-true (length f) n (and_second (leb 1 (length f)) (leb (length f) n) (and_first (leb 1 (length f) && leb (length f) n) (all_of is_digit f) digits))

module _ (line : List ℕ) (at : ℕ) (ended : field_ends line at < length line) where
  pub blank_value : get_or line at 0 ≡ 44 → 0 ≡ decimal_number (field_at line at)
  unfolding value
  blank_value comma = rw (blank_field line at ended comma)

  -- what is left from a later place on
  byte_first : (k : ℕ) → k ≤ field_length line at → drop (at + k) line ≡ get_or line (at + k) 0 ∷ drop (at + (k + 1)) line
  byte_first k h =
      let e : suc (at + k) ≡ at + (k + 1) = omega arith in
      drop-cons line (at + k) 0 (within line at ended k h) ∙ ap (λ (n : ℕ). get_or line (at + k) 0 ∷ drop n line) e

  start : drop at line ≡ get_or line at 0 ∷ drop (at + 1) line
  start =
      let e : at + 0 ≡ at = omega arith in
      ap (λ (n : ℕ). drop n line) (sym e) ∙ byte_first 0 (omega arith) ∙ ap (λ (n : ℕ). get_or line n 0 ∷ drop (at + 1) line) e

  -- the value of one, two or three bytes
  pub one_value : field_length line at ≡ 1 → decimal_number (field_at line at) ≡ digit_value (get_or line at 0)
  unfolding field_at value
  one_value size = rw (size, start) (omega arith)

  pub two_value : field_length line at ≡ 2 → decimal_number (field_at line at) ≡ digit_value (get_or line at 0) * 10 + digit_value (get_or line (at + 1) 0)
  unfolding field_at value
  two_value size = rw (size, start, byte_first 1 (omega arith)) (omega arith)

  pub three-value
      : field_length line at ≡ 3
      → decimal_number (field_at line at) ≡ (digit_value (get_or line at 0) * 10 + digit_value (get_or line (at + 1) 0)) * 10 + digit_value (get_or line (at + 2) 0)
  unfolding field_at value
  three-value size = rw (size, start, byte_first 1 (omega arith), byte_first 2 (omega arith)) (omega arith)

  module _ (form : or_blank (is_number 3 0) (field_at line at) ≡ true) (more : get_or line at 0 ≡ 44 → ⊥) where
    pub few : field_length line at ≤ 3
    few = omega (arith, field_size line at, number_few 3 0 (field_at line at) (rw (unblank_field line at ended more) at form))
