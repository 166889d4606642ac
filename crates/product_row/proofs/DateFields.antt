-- Fields that are dates, by the eight digits at their place.
-- Assumes nothing.
use mathlib.Core.Path.{◌≡◌, sym, ap, ap₂, ◌∙◌}
use mathlib.Core.Bool.{Bool, true, false, ◌&&◌}
use mathlib.Core.List.{List}
use Prim.Native.Nat.{ℕ, ◌+◌, ◌≤◌, ◌<◌}
use native.Mathlib.Omega.{arith}
use borrow.Author.Tests.{eq-eqb, ne_eqb, eqb-true, eqb-false}
use lib.Dec.{eqb}
use lib.ListN.{length, get_or, drop, length-drop}
use Rattle.std.proofs.Common.{None, Some}
use Rattle.octets.specs.Every.{all_of}
use Rattle.octets.proofs.Every.{either, and_first}
use Rattle.text.specs.Characters.{is_digit, decimal_number}
use Rattle.text.specs.Texts.{part, all_at}
use Rattle.text.proofs.TextsAt.{all_within, all_there, all_inside}
use Rattle.dates.specs.Calendar.{is_date}
use Rattle.forms.specs.DateText.{is_date_at}
use Rattle.forms.proofs.DateTexts.{date_right, date_wrong}
use Rattle.product_row.specs.Fields.{is_date_text}
use Rattle.product_row.specs.Taking.{field_length, field_ends, field_at, taken}
use Rattle.product_row.proofs.Cuts.{run_uncut}
use Rattle.product_row.proofs.FieldPlaces.{field_size, part_of_field, within, ends_here, comma-there}
use Rattle.product_row.proofs.DigitPlaces.{no_comma}
use Rattle.product_row.proofs.TakenFields.{taken-after, not_taken}

module _ (line : List ℕ) (at : ℕ) (ended : field_ends line at < length line) where
  other_size : (field_length line at ≡ 8 → ⊥) → is_date_text (field_at line at) ≡ false
  unfolding is_date_text
  other_size other = rw (ne_eqb (length (field_at line at)) 8 (λ e. other (sym (field_size line at) ∙ e)))

  -- eight bytes of the field are those at its place
  module _ (size : field_length line at ≡ 8) where
    same_part : part 8 (field_at line at) 0 ≡ part 8 line at
    same_part = let here : at + 0 ≡ at = omega arith in part_of_field line at 8 0 (omega arith) ∙ ap (part 8 line) here

    same_digits : all_at is_digit 8 (field_at line at) 0 ≡ all_at is_digit 8 line at
    unfolding field_ends
    same_digits =
        all_inside is_digit 8 (field_at line at) 0 (omega (arith, field_size line at))
        ∙ ap (all_of is_digit) same_part
        ∙ sym (all_inside is_digit 8 line at (omega arith))

    same-date : is_date_text (field_at line at) ≡ is_date_at line at
    unfolding is_date_text is_date_at
    same-date =
        rw (eq-eqb (length (field_at line at)) 8 (field_size line at ∙ size))
        (ap₂ (λ (a : Bool) (l : List ℕ). a && is_date (decimal_number l)) same_digits same_part)

  pub no_date_lem : is_date_at line at ≡ false → None ≡ taken is_date_text line at
  no_date_lem bad =
      not_taken is_date_text line at
      (either (eqb (field_length line at) 8)
      (λ eight. same-date (eqb-true (field_length line at) 8 eight) ∙ bad)
      (λ other. other_size (eqb-false (field_length line at) 8 other)))

  module _ (date : is_date_at line at ≡ true) where
    all : all_at is_digit 8 line at ≡ true
    unfolding is_date_at
    all = and_first (all_at is_digit 8 line at) (is_date (decimal_number (part 8 line at))) date

    -- a date's digits are no comma
    eight : 8 ≤ field_length line at
    eight =
        run_uncut 44 is_digit no_comma (drop at line) 8
        (simp length-drop (omega (arith, all_within is_digit 8 line at all)))
        (all_there is_digit 8 line at all)

    pub date_inside : at + 8 < length line
    date_inside = within line at ended 8 eight

    pub date_goes_on : (get_or line (at + 8) 0 ≡ 44 → ⊥) → None ≡ taken is_date_text line at
    unfolding field_ends
    date_goes_on other =
        not_taken is_date_text line at
        (other_size (λ e. other (ap (λ (n : ℕ). get_or line (at + n) 0) (sym e) ∙ comma-there line at ended)))

    pub date_is : get_or line (at + 8) 0 ≡ 44 → Some (at + 9) ≡ taken is_date_text line at
    date_is comma =
        let size : field_length line at ≡ 8 = ends_here line at ended 8 eight comma in
        let sum : at + 9 ≡ at + 8 + 1 = omega arith in
        ap Some sum ∙ taken-after is_date_text line at 8 size (same-date size ∙ date)

-- what the check is given of dates
pub ruleset date_laws = (date_right, date_wrong, no_date_lem, date_inside, date_goes_on, date_is)
