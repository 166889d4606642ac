-- A number's form by how many digits it has and by its first.
-- Assumes nothing.
use mathlib.Core.Path.{◌≡◌, refl, sym, ◌∙◌}
use mathlib.Core.Bool.{true, false, and-true, and-false, or-true}
use mathlib.Core.List.{List, [], ◌∷◌, map}
use Prim.Native.Nat.{ℕ, zero, suc, ◌-◌, ◌^◌, ◌≤◌}
use native.Mathlib.Nat.{one-le-pow, one-le-mul}
use native.Mathlib.Omega.{arith}
use borrow.Author.Tests.{le-leb, ne_eqb, eqb-true, eqb-false}
use lib.Dec.{leb, eqb, leb-suc-zero}
use lib.ListN.{length, get_or}
use Rattle.octets.specs.Numbers.{value}
use Rattle.octets.specs.Every.{all_of}
use Rattle.octets.proofs.Every.{either, all_first}
use Rattle.text.specs.Characters.{is_digit, digit_value, decimal_number}
use Rattle.text.proofs.Notations.{digit_low}
use Rattle.product_row.specs.Fields.{is_digits, is_number}
use Rattle.product_row.specs.Taking.{is_numeral}

-- a number whose first digit is not 0 is at least 1
positive : (c : ℕ) (s : List ℕ) → is_digit c ≡ true → (c ≡ 48 → ⊥) → 1 ≤ decimal_number (c ∷ s)
unfolding digit_value value
positive c s digit other =
    let first : 1 ≤ c - 48 = omega (arith, digit_low c digit) in
    let power : 1 ≤ 10 ^ length (map digit_value s) = one-le-pow (length (map digit_value s)) 10 (omega arith) in
    rw digit (omega (arith, one-le-mul first power))

at-most_none : (low : ℕ) → leb low 0 ≡ eqb low 0
at-most_none zero = refl
at-most_none (suc low) = leb-suc-zero low ∙ sym (ne_eqb (suc low) 0 (λ e. omega arith))

pub number_numeral : (most low : ℕ) (f : List ℕ) → low ≤ 1 → all_of is_digit f ≡ true → is_number most low f ≡ is_numeral most low (length f) (get_or f 0 0)
unfolding is_number is_digits is_numeral digit_value value is_digit
number_numeral most low [] small all = refl
number_numeral most low (c ∷ []) small all =
    either (eqb c 48)
    (λ zero. let e : c ≡ 48 = eqb-true c 48 zero in rw (all, e) (simp (and-true, at-most_none)))
    (λ other.
    let large : low ≤ decimal_number (c ∷ []) = omega (arith, positive c [] (all_first is_digit c [] all) (eqb-false c 48 other)) in
    rw (all, other, le-leb low (decimal_number (c ∷ [])) large) (simp and-true))
number_numeral most low (c ∷ d ∷ s) small all =
    let two : eqb (suc (suc (length s))) 1 ≡ false = ne_eqb (suc (suc (length s))) 1 (λ e. omega arith) in
    either (eqb c 48)
    (λ zero. rw (all, zero, two) (simp and-false))
    (λ other.
    let large : low ≤ decimal_number (c ∷ d ∷ s) = omega (arith, positive c (d ∷ s) (all_first is_digit c (d ∷ s) all) (eqb-false c 48 other)) in
    rw (all, other, le-leb low (decimal_number (c ∷ d ∷ s)) large) (simp (and-true, or-true)))

pub no_digits_no_number : (most low : ℕ) (f : List ℕ) → all_of is_digit f ≡ false → is_number most low f ≡ false
unfolding is_number is_digits
no_digits_no_number most low f bad = rw bad (simp and-false)
