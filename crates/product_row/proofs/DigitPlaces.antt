-- The digits that begin at a place: they end within the field, and it is of digits where its comma follows them.
-- Assumes nothing.
use mathlib.Core.Path.{◌≡◌, refl, sym, ap, ◌∙◌}
use mathlib.Core.Bool.{true, false}
use mathlib.Core.List.{List, ◌∷◌}
use Prim.Native.Nat.{ℕ, ◌+◌, ◌-◌, ◌≤◌, ◌<◌}
use native.Mathlib.Omega.{arith}
use native.Mathlib.Numerals.{add-one}
use lib.ListN.{length, get_or, drop}
use lib.Seq.{drop-cons}
use Rattle.octets.specs.Every.{all_of}
use Rattle.text.specs.Characters.{is_digit}
use Rattle.text.proofs.Notations.{digit_low}
use Rattle.product_row.specs.Fields.{digits_first}
use Rattle.product_row.specs.Taking.{field_length, field_ends, field_at, digits_end}
use Rattle.product_row.proofs.Runs.{run_before, run_taken, run_all, run_part}
use Rattle.product_row.proofs.FieldPlaces.{begins, goes_on, ends_here, same_end, field_size}

pub no_comma : is_digit 44 ≡ false
unfolding is_digit
no_comma = refl

module _ (line : List ℕ) (at : ℕ) (ended : field_ends line at < length line) where
  pub inside : at < length line
  inside = omega (arith, begins line at)

  split : drop at line ≡ get_or line at 0 ∷ drop (at + 1) line
  split = drop-cons line at 0 inside ∙ ap (λ (k : ℕ). get_or line at 0 ∷ drop k line) (sym (add-one at))

  -- a digit is not the comma
  digit_on : is_digit (get_or line at 0) ≡ true → 1 ≤ field_length line at
  digit_on digit =
      let here : get_or line (at + 0) 0 ≡ get_or line at 0 = (let z : at + 0 ≡ at = omega arith in ap (λ (k : ℕ). get_or line k 0) z) in
      goes_on line at ended 0 (omega arith) (λ e. omega (arith, digit_low (get_or line at 0) digit, here))

  pub digit_ended : is_digit (get_or line at 0) ≡ true → field_ends line (at + 1) < length line
  digit_ended digit = rw (same_end line at ended 1 (digit_on digit)) ended

  pub digit_next : is_digit (get_or line at 0) ≡ true → digits_end line (at + 1) ≡ digits_end line at
  unfolding digits_end digits_first
  digit_next digit = rw (split, digit) (omega arith)

  pub digit_none : is_digit (get_or line at 0) ≡ false → at ≡ digits_end line at
  unfolding digits_end digits_first
  digit_none other = rw (split, other) (omega arith)

  -- how many they are
  abbrev count : ℕ
  count = digits_first (drop at line)

  count_within : count ≤ field_length line at
  count_within = run_before 44 no_comma (drop at line)

  field_count : digits_first (field_at line at) ≡ count
  unfolding field_at
  field_count = run_taken (drop at line) (field_length line at) count_within

  -- the place where they end
  module _ (end : ℕ) (is : end ≡ digits_end line at) where
    place : end ≡ at + count
    unfolding digits_end
    place = is

    pub end_after : at ≤ end
    end_after = omega (arith, place)

    -- how many they are, in the field too
    pub end-count : digits_first (field_at line at) ≡ end - at
    end-count = omega (arith, place, field_count)

    pub end_before : end - at ≤ field_length line at
    end_before = omega (arith, place, count_within)

    pub end_inside : end < length line
    unfolding field_ends
    end_inside = omega (arith, place, count_within)

    byte-there : get_or line (at + count) 0 ≡ get_or line end 0
    byte-there = ap (λ (k : ℕ). get_or line k 0) (sym place)

    -- the comma follows them, or it does not
    module _ (comma : get_or line end 0 ≡ 44) where
      pub end-size : field_length line at ≡ end - at
      end-size = omega (arith, place, ends_here line at ended count count_within (byte-there ∙ comma))

      pub end-all : all_of is_digit (field_at line at) ≡ true
      end-all = run_all (field_at line at) (end-count ∙ sym end-size ∙ sym (field_size line at))

    pub end-not : (get_or line end 0 ≡ 44 → ⊥) → all_of is_digit (field_at line at) ≡ false
    end-not other =
        run_part (field_at line at)
        (omega (arith, field_count, field_size line at, goes_on line at ended count count_within (λ e. other (sym byte-there ∙ e))))
