-- How many digits a number has; its numeral is of digits, without a leading zero, and its number is the number.
-- Assumes nothing.
use Rattle.std.proofs.Common.{◌≡◌, ℕ, zero, suc, ◌/◌, ◌%◌, ◌^◌, ◌<◌, ◌≤◌, true, ltb, map, length, get_or, refl, mod-eq_of_lt, div-lt_iff_lt-mul, one-mul, pow-suc, le-div_iff_mul-le, arith, ltb-false, ltb-true, le-ltb, lt-ltb}
use native.Mathlib.Nat.{one-le-pow, pow-succ'}
use Rattle.octets.specs.Numbers.{digits}
use Rattle.octets.specs.Every.{all_of}
use Rattle.octets.proofs.Every.{either}
use Rattle.text.specs.Characters.{is_digit, digit_character, decimal_number}
use Rattle.text.specs.Texts.{width_up_to, width, numeral}
use Rattle.text.proofs.Alphabets.{text_length_lem, text_written_lem, number_of_text_fit}
use Rattle.text.proofs.Notations.{decimal}

pub width_one : (n x : ℕ) → x < 10 → width_up_to n x ≡ 1
unfolding width_up_to
width_one zero x h = refl
width_one (suc n) x h = rw (lt-ltb x 10 h)

pub width_more : (n x : ℕ) → 10 ≤ x → width_up_to (suc n) x ≡ suc (width_up_to n (x / 10))
unfolding width_up_to
width_more n x h = rw (le-ltb x 10 h)

-- a law of the width goes from the tenth part of a number to the number
by_tenths : (P : ℕ → ℕ → ℕ → Type 0)
    → ((n x : ℕ) → x < 10 → P n x 1)
    → ((x : ℕ) → P 0 x 1)
    → ((n x : ℕ) → 10 ≤ x → P n (x / 10) (width_up_to n (x / 10)) → P (suc n) x (suc (width_up_to n (x / 10))))
    → (n x : ℕ) → P n x (width_up_to n x)
unfolding width_up_to
by_tenths P small last more zero x = last x
by_tenths P small last more (suc n) x =
    either (ltb x 10)
    (λ e. rw e (small (suc n) x (ltb-true x 10 e)))
    (λ e. rw e (more n x (ltb-false x 10 e) (by_tenths P small last more n (x / 10))))

pub tenth_below : (k x : ℕ) → x < 10 ^ suc k → x / 10 < 10 ^ k
tenth_below k x h = (div-lt_iff_lt-mul {k = 10} {x = x} {y = 10 ^ k} (omega arith)).1 (rw pow-suc at h)

below_tenth : (k x : ℕ) → x / 10 < 10 ^ k → x < 10 ^ suc k
below_tenth k x h = rw pow-suc ((div-lt_iff_lt-mul {k = 10} {x = x} {y = 10 ^ k} (omega arith)).0 h)

tenth_above : (k x : ℕ) → 10 ^ k ≤ x / 10 → 10 ^ suc k ≤ x
tenth_above k x h = rw pow-suc ((le-div_iff_mul-le {k = 10} {x = 10 ^ k} {y = x} (omega arith)).0 h)

width_up_to_positive : (n x : ℕ) → 1 ≤ width_up_to n x
width_up_to_positive =
    by_tenths (λ (n x w : ℕ). 1 ≤ w) (λ n x h. omega arith) (λ x. omega arith) (λ n x h before. omega arith)

width_up_to_at-most : (n x k : ℕ) → x < 10 ^ suc k → width_up_to n x ≤ suc k
width_up_to_at-most =
    by_tenths (λ (n x w : ℕ). (k : ℕ) → x < 10 ^ suc k → w ≤ suc k)
    (λ n x h k fits. omega arith)
    (λ x k fits. omega arith)
    at-tenth
  where
    at-tenth : (n x : ℕ) → 10 ≤ x → ((k : ℕ) → x / 10 < 10 ^ suc k → width_up_to n (x / 10) ≤ suc k)
        → (k : ℕ) → x < 10 ^ suc k → suc (width_up_to n (x / 10)) ≤ suc k
    at-tenth n x h before zero fits = absurd (omega arith)
    at-tenth n x h before (suc k) fits = omega (arith, before k (tenth_below (suc k) x fits))

width_up_to_enough : (n x : ℕ) → x < 10 ^ suc n → x < 10 ^ width_up_to n x
width_up_to_enough =
    by_tenths (λ (n x w : ℕ). x < 10 ^ suc n → x < 10 ^ w)
    (λ n x h fits. h)
    (λ x fits. fits)
    (λ n x h before fits. below_tenth (width_up_to n (x / 10)) x (before (tenth_below (suc n) x fits)))

width_up_to_needed : (n x k : ℕ) → width_up_to n x ≡ suc k → 0 < x → 10 ^ k ≤ x
width_up_to_needed =
    by_tenths (λ (n x w : ℕ). (k : ℕ) → w ≡ suc k → 0 < x → 10 ^ k ≤ x)
    (λ n x h. one_digit x)
    one_digit
    at-tenth
  where
    one_digit : (x k : ℕ) → 1 ≡ suc k → 0 < x → 10 ^ k ≤ x
    one_digit x zero e h = h
    one_digit x (suc k) e h = absurd (omega arith)

    at-tenth : (n x : ℕ) → 10 ≤ x → ((k : ℕ) → width_up_to n (x / 10) ≡ suc k → 0 < x / 10 → 10 ^ k ≤ x / 10)
        → (k : ℕ) → suc (width_up_to n (x / 10)) ≡ suc k → 0 < x → 10 ^ k ≤ x
    at-tenth n x h before zero e pos = pos
    at-tenth n x h before (suc k) e pos = tenth_above k x (before k (omega arith) (omega arith))

pub width_positive : (x : ℕ) → 1 ≤ width x
width_positive x = width_up_to_positive 19 x

pub width-at-most : (x k : ℕ) → x < 10 ^ k → 1 ≤ k → width x ≤ k
width-at-most x zero fits h = absurd (omega arith)
width-at-most x (suc k) fits h = width_up_to_at-most 19 x k fits

pub width_enough : (x : ℕ) → x < 10 ^ 20 → x < 10 ^ width x
width_enough x fits = width_up_to_enough 19 x fits

pub numeral-length : (x : ℕ) → length (numeral x) ≡ width x
unfolding numeral
numeral-length x = text_length_lem decimal (width x) x

pub numeral-digits : (x : ℕ) → all_of is_digit (numeral x) ≡ true
unfolding numeral
numeral-digits x = text_written_lem decimal (width x) x

pub numeral_number : (x : ℕ) → x < 10 ^ 20 → decimal_number (numeral x) ≡ x
unfolding numeral
numeral_number x fits = number_of_text_fit decimal (width x) x (width_enough x fits)

first_digit : (k x : ℕ) → 10 ^ k ≤ x → x < 10 ^ suc k → 0 < x / 10 ^ k % 10
first_digit k x enough fits = rw (mod-eq_of_lt below) above
  where
    positive : 0 < 10 ^ k
    positive = one-le-pow k 10 (omega arith)

    below : x / 10 ^ k < 10
    below = (div-lt_iff_lt-mul {k = 10 ^ k} {x = x} {y = 10} positive).1 (rw pow-succ' at fits)

    above : 0 < x / 10 ^ k
    above = (le-div_iff_mul-le {k = 10 ^ k} {x = 1} {y = x} positive).1 (rw one-mul enough)

-- the first character is above 0
pub numeral_first : (x : ℕ) → 0 < x → x < 10 ^ 20 → 48 < get_or (numeral x) 0 0
unfolding numeral digits digit_character
numeral_first x pos fits = at (width x) refl
  where
    at : (w : ℕ) → width x ≡ w → 48 < get_or (map digit_character (digits 10 w x)) 0 0
    at zero e = absurd (omega (arith, width_positive x))
    at (suc k) e = omega (arith, first_digit k x (width_up_to_needed 19 x k e pos) (rw e at (width_enough x fits)))
