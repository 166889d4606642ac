-- Fields that are numbers, or digits alone, by where their digits end.
-- Assumes nothing.
use mathlib.Core.Path.{◌≡◌, refl, sym, ap, ◌∙◌}
use mathlib.Core.Bool.{Bool, true, false, and-true, and-false}
use mathlib.Core.List.{List, [], ◌∷◌}
use Prim.Native.Nat.{ℕ, zero, suc, ◌+◌, ◌-◌, ◌≤◌, ◌<◌}
use native.Mathlib.Omega.{arith}
use borrow.Author.Tests.{le-leb, lt-leb}
use lib.Dec.{leb}
use lib.ListN.{length, get_or}
use Rattle.std.proofs.Common.{None, Some}
use Rattle.octets.specs.Every.{all_of}
use Rattle.text.specs.Characters.{is_digit}
use Rattle.product_row.specs.Fields.{is_blank, or_blank, is_digits, is_number}
use Rattle.product_row.specs.Taking.{field_ends, field_at, taken, digits_end, is_numeral}
use Rattle.product_row.proofs.FieldPlaces.{field_size, first_byte}
use Rattle.product_row.proofs.DigitPlaces.{end_after, end_inside, end-size, end-all, end-not}
use Rattle.product_row.proofs.Numerals.{number_numeral, no_digits_no_number}
use Rattle.product_row.proofs.TakenFields.{taken-after, not_taken}

-- the first byte of an empty text is not looked at
pub first_alike : (most low n a b : ℕ) → (1 ≤ n → a ≡ b) → is_numeral most low n a ≡ is_numeral most low n b
unfolding is_numeral
first_alike most low zero a b same = refl
first_alike most low (suc n) a b same = let e : a ≡ b = same (omega arith) in rw e

-- blank, or up to n digits: n digits at most
digits_few : (n : ℕ) (f : List ℕ) → all_of is_digit f ≡ true → or_blank (is_digits n) f ≡ leb (length f) n
unfolding is_blank is_digits
digits_few n [] all = sym (le-leb 0 n (omega arith))
digits_few n (c ∷ f) all = rw (all, le-leb 1 (suc (length f)) (omega arith)) (and-true (leb (suc (length f)) n))

-- a text that is not all digits is not blank
other_digits : (n : ℕ) (f : List ℕ) → all_of is_digit f ≡ false → or_blank (is_digits n) f ≡ false
unfolding is_blank is_digits all_of
other_digits n [] bad = bad
other_digits n (c ∷ f) bad = rw bad (simp and-false)

-- the digits that begin at a place end at a place
module _ (line : List ℕ) (at end : ℕ) (ended : field_ends line at < length line) (is : end ≡ digits_end line at) where
  ends_there : get_or line end 0 ≡ 44 → (form : List ℕ → Bool) → form (field_at line at) ≡ true → Some (end + 1) ≡ taken form line at
  ends_there comma form good =
      let sum : at + (end - at) + 1 ≡ end + 1 = omega (arith, end_after line at ended end is) in
      ap Some (sym sum) ∙ taken-after form line at (end - at) (end-size line at ended end is comma) good

  size : get_or line end 0 ≡ 44 → length (field_at line at) ≡ end - at
  size comma = field_size line at ∙ end-size line at ended end is comma

  module _ (most low : ℕ) where
    pub other_number : (get_or line end 0 ≡ 44 → ⊥) → None ≡ taken (is_number most low) line at
    other_number other =
        not_taken (is_number most low) line at (no_digits_no_number most low (field_at line at) (end-not line at ended end is other))

    module _ (small : low ≤ 1) (comma : get_or line end 0 ≡ 44) where
      numeral : is_number most low (field_at line at) ≡ is_numeral most low (end - at) (get_or line at 0)
      numeral =
          number_numeral most low (field_at line at) small (end-all line at ended end is comma)
          ∙ ap (λ (n : ℕ). is_numeral most low n (get_or (field_at line at) 0 0)) (size comma)
          ∙ first_alike most low (end - at) (get_or (field_at line at) 0 0) (get_or line at 0)
          (λ h. first_byte line at ended (omega (arith, end-size line at ended end is comma)))

      pub no_numeral : is_numeral most low (end - at) (get_or line at 0) ≡ false → None ≡ taken (is_number most low) line at
      no_numeral bad = not_taken (is_number most low) line at (numeral ∙ bad)

      pub number_is : is_numeral most low (end - at) (get_or line at 0) ≡ true → Some (end + 1) ≡ taken (is_number most low) line at
      number_is good = ends_there comma (is_number most low) (numeral ∙ good)

  module _ (n : ℕ) where
    pub other_byte : (get_or line end 0 ≡ 44 → ⊥) → None ≡ taken (or_blank (is_digits n)) line at
    other_byte other =
        not_taken (or_blank (is_digits n)) line at (other_digits n (field_at line at) (end-not line at ended end is other))

    module _ (comma : get_or line end 0 ≡ 44) where
      few : or_blank (is_digits n) (field_at line at) ≡ leb (end - at) n
      few = digits_few n (field_at line at) (end-all line at ended end is comma) ∙ ap (λ (k : ℕ). leb k n) (size comma)

      pub too_many : n < end - at → None ≡ taken (or_blank (is_digits n)) line at
      too_many many = not_taken (or_blank (is_digits n)) line at (few ∙ lt-leb (end - at) n many)

      pub are_digits : end - at ≤ n → Some (end + 1) ≡ taken (or_blank (is_digits n)) line at
      are_digits enough = ends_there comma (or_blank (is_digits n)) (few ∙ le-leb (end - at) n enough)

-- what the check is given of numbers and of digits
pub ruleset number_laws = (end_after, end_inside, other_number, no_numeral, number_is, other_byte, too_many, are_digits)
