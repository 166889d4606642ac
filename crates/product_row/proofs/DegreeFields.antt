-- Fields that are degrees: a sign, digits and a fraction, each from its place on.
-- Assumes nothing.
use mathlib.Core.Path.{◌≡◌, refl, sym, ap, ◌∙◌}
use mathlib.Core.Bool.{Bool, true, ◌&&◌, and-false}
use mathlib.Core.List.{List}
use Prim.Native.Nat.{ℕ, suc, ◌+◌, ◌-◌, ◌≤◌, ◌<◌}
use native.Mathlib.Omega.{arith}
use borrow.Author.Tests.{le-leb, lt-leb, eq-eqb, ne_eqb}
use lib.Dec.{leb, leb-suc-suc}
use lib.ListN.{length, get_or, drop}
use Rattle.std.proofs.Common.{None, Some}
use Rattle.octets.specs.Every.{all_of}
use Rattle.text.specs.Characters.{is_digit}
use Rattle.product_row.specs.Fields.{is_blank, or_blank, digits_first, is_fraction, is_unsigned, is_degrees}
use Rattle.product_row.specs.Taking.{field_length, field_ends, field_at, taken, digits_end}
use Rattle.product_row.proofs.FieldPlaces.{field_size, first_byte, starts-comma, starts_other, same_end, still-ended, rest-of-field}
use Rattle.product_row.proofs.DigitPlaces.{end_after, end_before, end-count, end-size, end-all, end-not}
use Rattle.product_row.proofs.BlankFields.{blank_field, unblank_field}
use Rattle.product_row.proofs.TakenFields.{taken-after, taken_like, not_taken}

module _ (line : List ℕ) (at : ℕ) (ended : field_ends line at < length line) where
  pub no_fraction : get_or line at 0 ≡ 44 → Some (at + 1) ≡ taken is_fraction line at
  unfolding is_fraction is_blank
  no_fraction comma =
      let here : at + 1 ≡ at + 0 + 1 = omega arith in
      ap Some here ∙ taken-after is_fraction line at 0 (starts-comma line at ended comma) (rw (blank_field line at ended comma))

  -- the field has a first byte
  module _ (more : get_or line at 0 ≡ 44 → ⊥) where
    some : 1 ≤ field_length line at
    some = starts_other line at ended more

    first : get_or (field_at line at) 0 0 ≡ get_or line at 0
    first = first_byte line at ended some

    pub next_ended : field_ends line (at + 1) < length line
    next_ended = still-ended line at ended 1 some

    next-size : field_length line at ≡ suc (field_length line (at + 1))
    unfolding field_ends
    next-size = omega (arith, same_end line at ended 1 some)

    pub no_point : (get_or line at 0 ≡ 46 → ⊥) → None ≡ taken is_fraction line at
    unfolding is_fraction
    no_point other =
        not_taken is_fraction line at
        (rw (unblank_field line at ended more, ne_eqb (get_or (field_at line at) 0 0) 46 (λ e. other (sym first ∙ e))))

    -- a point, and the digits after it
    module _ (point : get_or line at 0 ≡ 46) where
      fraction-is : is_fraction (field_at line at) ≡ (leb 1 (length (field_at line (at + 1))) && all_of is_digit (field_at line (at + 1)))
      unfolding is_fraction
      fraction-is =
          let size : length (field_at line at) ≡ suc (length (field_at line (at + 1))) =
          omega (arith, field_size line at, field_size line (at + 1), next-size) in
          rw (unblank_field line at ended more, eq-eqb (get_or (field_at line at) 0 0) 46 (first ∙ point), size, rest-of-field line at ended 1 some)
          (ap (λ (b : Bool). b && all_of is_digit (field_at line (at + 1))) (leb-suc-suc 1 (length (field_at line (at + 1)))))

      module _ (end : ℕ) (is : end ≡ digits_end line (at + 1)) where
        pub no_fraction_digits : (get_or line end 0 ≡ 44 → ⊥) → None ≡ taken is_fraction line at
        no_fraction_digits other =
            not_taken is_fraction line at (fraction-is ∙ rw (end-not line (at + 1) next_ended end is other) (simp and-false))

        module _ (comma : get_or line end 0 ≡ 44) where
          size : length (field_at line (at + 1)) ≡ end - (at + 1)
          size = field_size line (at + 1) ∙ end-size line (at + 1) next_ended end is comma

          pub point_alone : end ≡ at + 1 → None ≡ taken is_fraction line at
          point_alone none =
              not_taken is_fraction line at
              (fraction-is ∙ rw (lt-leb 1 (length (field_at line (at + 1))) (omega (arith, size))))

          pub fraction_right : (end ≡ at + 1 → ⊥) → Some (end + 1) ≡ taken is_fraction line at
          fraction_right several =
              let after : at + 1 ≤ end = end_after line (at + 1) next_ended end is in
              let sum : end + 1 ≡ at + (end - at) + 1 = omega arith in
              ap Some sum
              ∙ taken-after is_fraction line at (end - at)
              (omega (arith, next-size, end-size line (at + 1) next_ended end is comma))
              (fraction-is
              ∙ rw (le-leb 1 (length (field_at line (at + 1))) (omega (arith, size)), end-all line (at + 1) next_ended end is comma))

    -- a sign, or none
    pub signed : get_or line at 0 ≡ 45 → taken is_unsigned line (at + 1) ≡ taken (or_blank is_degrees) line at
    unfolding is_degrees
    signed sign =
        taken_like (or_blank is_degrees) is_unsigned line at (at + 1)
        (rw (unblank_field line at ended more, eq-eqb (get_or (field_at line at) 0 0) 45 (first ∙ sign), rest-of-field line at ended 1 some))
        (sym (same_end line at ended 1 some))

    pub not_signed : (get_or line at 0 ≡ 45 → ⊥) → taken is_unsigned line at ≡ taken (or_blank is_degrees) line at
    unfolding is_degrees
    not_signed other =
        taken_like (or_blank is_degrees) is_unsigned line at at
        (rw (unblank_field line at ended more, ne_eqb (get_or (field_at line at) 0 0) 45 (λ e. other (sym first ∙ e))))
        refl

  -- the digits before the fraction
  module _ (point : ℕ) (is : point ≡ digits_end line at) where
    count : digits_first (field_at line at) ≡ point - at
    count = end-count line at ended point is

    place : at + (point - at) ≡ point
    place = omega (arith, end_after line at ended point is)

    pub point_ended : field_ends line point < length line
    point_ended = rw place at (still-ended line at ended (point - at) (end_before line at ended point is))

    pub no_digit : point ≡ at → None ≡ taken is_unsigned line at
    unfolding is_unsigned
    no_digit none =
        not_taken is_unsigned line at (rw (lt-leb 1 (digits_first (field_at line at)) (omega (arith, count))))

    module _ (several : point ≡ at → ⊥) where
      one : leb 1 (digits_first (field_at line at)) ≡ true
      one = le-leb 1 (digits_first (field_at line at)) (omega (arith, count, end_after line at ended point is))

      pub four_digits : 3 < point - at → None ≡ taken is_unsigned line at
      unfolding is_unsigned
      four_digits many =
          not_taken is_unsigned line at (rw (one, lt-leb (digits_first (field_at line at)) 3 (omega (arith, count))))

      pub then_fraction : point - at ≤ 3 → taken is_fraction line point ≡ taken is_unsigned line at
      unfolding is_unsigned
      then_fraction few =
          let before = end_before line at ended point is in
          let rest : drop (digits_first (field_at line at)) (field_at line at) ≡ field_at line point =
          ap (λ (n : ℕ). drop n (field_at line at)) count ∙ rest-of-field line at ended (point - at) before ∙ ap (field_at line) place in
          taken_like is_unsigned is_fraction line at point
          (rw (one, le-leb (digits_first (field_at line at)) 3 (omega (arith, count)), rest))
          (sym (same_end line at ended (point - at) before) ∙ ap (field_ends line) place)

-- what the check is given of fractions and of degrees
pub ruleset degree_laws = (no_fraction, next_ended, no_point, no_fraction_digits, point_alone, fraction_right, signed, not_signed, end_after, point_ended, no_digit, four_digits, then_fraction)
