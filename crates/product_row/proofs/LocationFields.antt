-- Fields that are locations: an exchange set, or `M`, a number and `;` before it.
-- Assumes nothing.
use mathlib.Core.Path.{◌≡◌, refl, sym, ap, ap₂, ◌∙◌}
use mathlib.Core.Bool.{Bool, true, false, ◌&&◌, ◌||◌, or-false, and-false}
use mathlib.Core.List.{List, [], ◌∷◌}
use Prim.Native.Nat.{ℕ, suc, ◌+◌, ◌-◌, ◌≤◌, ◌<◌}
use native.Mathlib.Omega.{arith}
use borrow.Author.Tests.{ne_eqb, eqb-true, eqb-false, ltb-true, ltb-false}
use lib.Dec.{eqb, ltb}
use lib.ListN.{length, get_or, take, drop, drop_of_length-le, get_or-eq_default}
use lib.Seq.{length-take-le, get_or-take}
use Rattle.std.proofs.Common.{None}
use Rattle.octets.specs.Every.{all_of}
use Rattle.octets.proofs.Every.{either}
use Rattle.text.specs.Characters.{is_digit}
use Rattle.product_row.specs.Fields.{length_to, or_blank, digits_first, is_number, is_exchange_set, is_location}
use Rattle.product_row.specs.Taking.{field_length, field_ends, field_at, taken, digits_end, is_numeral}
use Rattle.product_row.proofs.Cuts.{cut_within, cut_there, cut-here}
use Rattle.product_row.proofs.Runs.{run_before, run_taken, run_all, run_part}
use Rattle.product_row.proofs.FieldPlaces.{field_size, field_byte, first_byte, starts_other, same_end, still-ended, rest-of-field, goes_on}
use Rattle.product_row.proofs.DigitPlaces.{end_after, end_before, end-count}
use Rattle.product_row.proofs.Numerals.{number_numeral, no_digits_no_number}
use Rattle.product_row.proofs.BlankFields.{blank_field, unblank_field}
use Rattle.product_row.proofs.NumberFields.{first_alike}
use Rattle.product_row.proofs.TakenFields.{taken_like, not_taken}

-- `B` or `U`
abbrev is_letter : ℕ → Bool
is_letter c = eqb c 66 || eqb c 85

module _ (line : List ℕ) (at : ℕ) (ended : field_ends line at < length line) where
  pub no_letter : is_letter (get_or line at 0) ≡ false → None ≡ taken is_exchange_set line at
  unfolding is_exchange_set
  no_letter bad =
      not_taken is_exchange_set line at
      (either (eqb (get_or line at 0) 44)
      (λ comma. rw (blank_field line at ended (eqb-true (get_or line at 0) 44 comma)))
      (λ other.
      let first : get_or (field_at line at) 0 0 ≡ get_or line at 0 =
      first_byte line at ended (starts_other line at ended (eqb-false (get_or line at 0) 44 other)) in
      rw (first, bad)))

  module _ (letter : is_letter (get_or line at 0) ≡ true) where
    more : get_or line at 0 ≡ 44 → ⊥
    more comma = let z : ◌≡◌ {A = Bool} false true = rw comma at letter in let e : ◌≡◌ {A = ℕ} 0 1 = cc in omega arith

    some : 1 ≤ field_length line at
    some = starts_other line at ended more

    pub number_ended : field_ends line (at + 1) < length line
    number_ended = still-ended line at ended 1 some

    pub then_number : taken (is_number 2 1) line (at + 1) ≡ taken is_exchange_set line at
    unfolding is_exchange_set
    then_number =
        taken_like is_exchange_set (is_number 2 1) line at (at + 1)
        (rw (first_byte line at ended some, letter, rest-of-field line at ended 1 some))
        (sym (same_end line at ended 1 some))

-- what follows `M`: a number up to the semicolon, and the exchange set after it
abbrev after_m : List ℕ → Bool
after_m g = is_number 2 1 (take (length_to 59 g) g) && is_exchange_set (drop (suc (length_to 59 g)) g)

volume_location : (f : List ℕ) → get_or f 0 0 ≡ 77 → is_location f ≡ after_m (drop 1 f)
unfolding is_location is_exchange_set length_to
volume_location [] e = absurd (omega arith)
volume_location (c ∷ g) e = rw e

no_semicolon_digit : is_digit 59 ≡ false
unfolding is_digit
no_semicolon_digit = refl

-- by the byte that follows its digits
module _ (g : List ℕ) where
  digits_first_lem : digits_first g ≤ length_to 59 g
  digits_first_lem = run_before 59 no_semicolon_digit g

  before_length : length (take (length_to 59 g) g) ≡ length_to 59 g
  before_length = length-take-le (length_to 59 g) g (cut_within 59 g)

  before_count : digits_first (take (length_to 59 g) g) ≡ digits_first g
  before_count = run_taken g (length_to 59 g) digits_first_lem

  no_semicolon : (get_or g (digits_first g) 0 ≡ 59 → ⊥) → after_m g ≡ false
  unfolding is_exchange_set
  no_semicolon other =
      either (ltb (digits_first g) (length_to 59 g))
      (λ less.
      let short : digits_first g < length_to 59 g = ltb-true (digits_first g) (length_to 59 g) less in
      rw (no_digits_no_number 2 1 (take (length_to 59 g) g) (run_part (take (length_to 59 g) g) (omega (arith, before_count, before_length)))))
      (λ same.
      let all : digits_first g ≡ length_to 59 g = omega (arith, digits_first_lem, ltb-false (digits_first g) (length_to 59 g) same) in
      either (ltb (length_to 59 g) (length g))
      (λ there. absurd (other (ap (λ (n : ℕ). get_or g n 0) all ∙ cut_there 59 g (ltb-true (length_to 59 g) (length g) there))))
      (λ none.
      let nothing : drop (suc (length_to 59 g)) g ≡ [] = drop_of_length-le g {i = suc (length_to 59 g)} (omega (arith, ltb-false (length_to 59 g) (length g) none)) in
      rw nothing (simp and-false)))

  module _ (there : get_or g (digits_first g) 0 ≡ 59) where
    place : length_to 59 g ≡ digits_first g
    place = cut-here 59 g (digits_first g) digits_first_lem there

    all_digits : all_of is_digit (take (length_to 59 g) g) ≡ true
    all_digits = run_all (take (length_to 59 g) g) (omega (arith, before_count, before_length, place))

    semicolon : after_m g ≡ (is_numeral 2 1 (digits_first g) (get_or g 0 0) && is_exchange_set (drop (suc (digits_first g)) g))
    semicolon =
        ap₂ (λ (a b : Bool). a && b)
        (number_numeral 2 1 (take (length_to 59 g) g) (omega arith) all_digits
        ∙ ap (λ (n : ℕ). is_numeral 2 1 n (get_or (take (length_to 59 g) g) 0 0)) (before_length ∙ place)
        ∙ first_alike 2 1 (digits_first g) (get_or (take (length_to 59 g) g) 0 0) (get_or g 0 0) (λ h. get_or-take (length_to 59 g) g 0 0 (omega (arith, place))))
        (ap (λ (n : ℕ). is_exchange_set (drop (suc n) g)) place)

module _ (line : List ℕ) (at : ℕ) (ended : field_ends line at < length line) (more : get_or line at 0 ≡ 44 → ⊥) where
  one : 1 ≤ field_length line at
  one = starts_other line at ended more

  first : get_or (field_at line at) 0 0 ≡ get_or line at 0
  first = first_byte line at ended one

  pub not_volume : (get_or line at 0 ≡ 77 → ⊥) → taken is_exchange_set line at ≡ taken (or_blank is_location) line at
  unfolding is_location
  not_volume other =
      taken_like (or_blank is_location) is_exchange_set line at at
      (rw (unblank_field line at ended more, ne_eqb (get_or (field_at line at) 0 0) 77 (λ e. other (sym first ∙ e))) (or-false (is_exchange_set (field_at line at))))
      refl

  pub volume_ended : field_ends line (at + 1) < length line
  volume_ended = still-ended line at ended 1 one

  module _ (letter : get_or line at 0 ≡ 77) (end : ℕ) (is : end ≡ digits_end line (at + 1)) where
    abbrev g : List ℕ
    g = field_at line (at + 1)

    location-is : or_blank is_location (field_at line at) ≡ after_m g
    location-is =
        rw (unblank_field line at ended more)
        (volume_location (field_at line at) (first ∙ letter) ∙ ap after_m (rest-of-field line at ended 1 one))

    count : digits_first g ≡ end - (at + 1)
    count = end-count line (at + 1) volume_ended end is

    after : at + 1 ≤ end
    after = end_after line (at + 1) volume_ended end is

    place_end : at + 1 + digits_first g ≡ end
    place_end = omega (arith, count, after)

    -- the byte after the digits, where it is of the field
    byte-after : digits_first g < field_length line (at + 1) → get_or g (digits_first g) 0 ≡ get_or line end 0
    byte-after less = field_byte line (at + 1) (digits_first g) less ∙ ap (λ (n : ℕ). get_or line n 0) place_end

    pub no_volume : (get_or line end 0 ≡ 59 → ⊥) → None ≡ taken (or_blank is_location) line at
    no_volume other =
        not_taken (or_blank is_location) line at
        (location-is
        ∙ no_semicolon g
        (λ e.
        either (ltb (digits_first g) (field_length line (at + 1)))
        (λ less. other (sym (byte-after (ltb-true (digits_first g) (field_length line (at + 1)) less)) ∙ e))
        (λ beyond.
        omega (
          arith,
          e,
          get_or-eq_default g 0 {n = digits_first g} (omega (arith, field_size line (at + 1), ltb-false (digits_first g) (field_length line (at + 1)) beyond)),
        ))))

    module _ (semi : get_or line end 0 ≡ 59) where
      less : digits_first g < field_length line (at + 1)
      less =
          goes_on line (at + 1) volume_ended (digits_first g) (omega (arith, count, end_before line (at + 1) volume_ended end is))
          (λ e. omega (arith, ap (λ (n : ℕ). get_or line n 0) place_end))

      next_place : at + 1 + suc (digits_first g) ≡ end + 1
      next_place = omega (arith, place_end)

      pub set_ended : field_ends line (end + 1) < length line
      set_ended = rw next_place at (still-ended line (at + 1) volume_ended (suc (digits_first g)) less)

      parts : or_blank is_location (field_at line at) ≡ (is_numeral 2 1 (end - (at + 1)) (get_or line (at + 1) 0) && is_exchange_set (field_at line (end + 1)))
      parts =
          location-is
          ∙ semicolon g (byte-after less ∙ semi)
          ∙ ap₂ (λ (a b : Bool). a && b)
          (first_alike 2 1 (digits_first g) (get_or g 0 0) (get_or line (at + 1) 0) (λ h. first_byte line (at + 1) volume_ended (omega (arith, less)))
          ∙ ap (λ (n : ℕ). is_numeral 2 1 n (get_or line (at + 1) 0)) count)
          (ap is_exchange_set (rest-of-field line (at + 1) volume_ended (suc (digits_first g)) less ∙ ap (field_at line) next_place))

      pub volume_wrong : is_numeral 2 1 (end - (at + 1)) (get_or line (at + 1) 0) ≡ false → None ≡ taken (or_blank is_location) line at
      volume_wrong bad = not_taken (or_blank is_location) line at (parts ∙ rw bad)

      pub volume_right : is_numeral 2 1 (end - (at + 1)) (get_or line (at + 1) 0) ≡ true → taken is_exchange_set line (end + 1) ≡ taken (or_blank is_location) line at
      volume_right good =
          taken_like (or_blank is_location) is_exchange_set line at (end + 1)
          (parts ∙ rw good)
          (sym (ap (field_ends line) (sym next_place) ∙ same_end line (at + 1) volume_ended (suc (digits_first g)) less ∙ same_end line at ended 1 one))

-- what the check is given of locations
pub ruleset location_laws = (end_after, volume_ended, not_volume, no_volume, set_ended, volume_wrong, volume_right)
