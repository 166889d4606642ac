-- An edition's text and number undo one another: at most three digits without a leading zero, or none.
-- Assumes nothing.
use mathlib.Core.Path.{◌≡◌, refl, sym, ap, ◌∙◌}
use mathlib.Core.Bool.{true, false}
use mathlib.Core.List.{List, [], ◌∷◌, ◌++◌}
use Prim.Native.Nat.{ℕ, zero, suc, ◌-◌, ◌^◌, ◌≤◌, ◌<◌}
use native.Mathlib.Nat.{pow-le-pow_right, one-le-pow, mul-le-mul_right, not-suc-le-zero}
use native.Mathlib.Omega.{arith}
use borrow.Author.Tests.{leb-true, leb-false}
use lib.Dec.{leb}
use lib.ListN.{length, get_or, length-map}
use Rattle.octets.specs.Numbers.{value}
use Rattle.octets.specs.Every.{all_of}
use Rattle.octets.proofs.Every.{either, all_first}
use Rattle.text.specs.Characters.{is_digit, digit_value, decimal_text, decimal_number}
use Rattle.text.specs.Texts.{width, numeral}
use Rattle.text.proofs.Alphabets.{number_below, text_of_number}
use Rattle.text.proofs.Notations.{decimal, digit_low}
use Rattle.text.proofs.Numerals.{width-at-most, width_enough, width_positive, numeral-length, numeral-digits, numeral_number, numeral_first}
use Rattle.cell_permit.specs.CellPermit.{comma}
use Rattle.cell_permit.specs.LineFields.{edition_text}

-- the text of an edition

pub edition_digits : (n : ℕ) → all_of is_digit (edition_text n) ≡ true
unfolding edition_text all_of
edition_digits zero = refl
edition_digits (suc n) = numeral-digits (suc n)

pub edition_few : (n : ℕ) → n ≤ 999 → length (edition_text n) ≤ 3
unfolding edition_text
edition_few zero h = omega arith
edition_few (suc n) h = omega (arith, numeral-length (suc n), width-at-most (suc n) 3 (omega arith) (omega arith))

pub edition_number : (n : ℕ) → n ≤ 999 → decimal_number (edition_text n) ≡ n
unfolding edition_text value
edition_number zero h = refl
edition_number (suc n) h = numeral_number (suc n) (omega arith)

first_of : (s rest : List ℕ) → 0 < length s → get_or (s ++ rest) 0 0 ≡ get_or s 0 0
first_of [] rest h = absurd (not-suc-le-zero h)
first_of (c ∷ s) rest h = refl

-- what begins with an edition and a comma begins with no zero
pub no_leading_zero : (n : ℕ) → n ≤ 999 → (rest : List ℕ) → get_or (edition_text n ++ (comma ∷ rest)) 0 0 ≡ 48 → ⊥
unfolding edition_text
no_leading_zero zero h rest e = omega arith
no_leading_zero (suc n) h rest e =
    omega (
      arith,
      first_of (numeral (suc n)) (comma ∷ rest) (omega (arith, numeral-length (suc n), width_positive (suc n))),
      numeral_first (suc n) (omega arith) (omega arith),
    )

-- a number has as many digits as its size demands
width_of : (x k : ℕ) → 10 ^ k ≤ x → x < 10 ^ suc k → x < 10 ^ 20 → width x ≡ suc k
width_of x k large small fits =
    either (leb (suc k) (width x))
    (λ e. omega (arith, leb-true (suc k) (width x) e, width-at-most x (suc k) small (omega arith)))
    (λ e. absurd (omega (arith, width_enough x fits, pow-le-pow_right {n = 10} (omega arith) (few e))))
  where
    few : leb (suc k) (width x) ≡ false → width x ≤ k
    few e = omega (arith, leb-false (suc k) (width x) e)

pub positive_text : (n : ℕ) → 0 < n → edition_text n ≡ numeral n
unfolding edition_text
positive_text zero h = absurd (not-suc-le-zero h)
positive_text (suc n) h = refl

-- a number of so many digits without a leading zero is at least that large
large : (d : ℕ) (ds : List ℕ) → is_digit d ≡ true → (d ≡ 48 → ⊥) → 10 ^ length ds ≤ decimal_number (d ∷ ds)
unfolding value digit_value
large d ds digit no_zero =
    let one : 1 ≤ d - 48 = omega (arith, digit_low d digit, no_zero) in
    rw (digit, length-map ds digit_value) (omega (arith, mul-le-mul_right (10 ^ length ds) one))

-- digits without a leading zero are the numeral of their number
numeral_text : (s : List ℕ) (k : ℕ) → length s ≡ suc k → k ≤ 2 → all_of is_digit s ≡ true → 10 ^ k ≤ decimal_number s → numeral (decimal_number s) ≡ s
unfolding numeral
numeral_text s k size few all enough =
    let x = decimal_number s in
    let below : x < 10 ^ length s = number_below decimal s all in
    let short : length s ≤ 20 = omega arith in
    let fits : x < 10 ^ 20 = omega (arith, pow-le-pow_right {n = 10} (omega arith) short) in
    ap (λ (w : ℕ). decimal_text w x) (width_of x k enough (rw size at below) fits ∙ sym size) ∙ text_of_number decimal s all

-- digits without a leading zero are the text of their number, and no digits are that of 0
pub edition_text_lem : (ds : List ℕ) → all_of is_digit ds ≡ true → length ds ≤ 3 → (get_or ds 0 0 ≡ 48 → ⊥) → edition_text (decimal_number ds) ≡ ds
unfolding edition_text value
edition_text_lem [] all few no_zero = refl
edition_text_lem (d ∷ ds) all few no_zero =
    let enough : 10 ^ length ds ≤ decimal_number (d ∷ ds) = large d ds (all_first is_digit d ds all) no_zero in
    positive_text (decimal_number (d ∷ ds)) (omega (arith, one-le-pow (length ds) 10 (omega arith)))
    ∙ numeral_text (d ∷ ds) (length ds) refl (omega arith) all enough
