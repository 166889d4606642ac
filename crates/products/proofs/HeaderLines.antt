-- The lines of the header, each by its tests.
-- Assumes nothing.
use mathlib.Core.Path.{◌≡◌, sym, ap, ◌∙◌}
use mathlib.Core.Bool.{true, false, not, ◌&&◌, and-false, or-true}
use mathlib.Core.List.{List, [], ◌∷◌}
use Prim.Native.Nat.{ℕ, ◌-◌, ◌≤◌, ◌<◌}
use native.Mathlib.Omega.{arith}
use borrow.Author.Tests.{ne_eqb, eqb-true, eqb-false, leb-true, le-leb, lt-leb}
use lib.Dec.{leb, eqb}
use lib.ListN.{length, get_or, take, drop, length-drop}
use lib.Seq.{take_all, take-length, get_or-drop}
use Rattle.octets.specs.Every.{all_of}
use Rattle.octets.proofs.Every.{and_first, either, all_first}
use Rattle.text.specs.Characters.{is_digit, digit_value, decimal_number}
use Rattle.text.specs.Texts.{same_text, stands_at, all_at}
use Rattle.octets.specs.Numbers.{value}
use Rattle.text.proofs.SameTexts.{differ_same}
use Rattle.text.proofs.TextsAt.{all_inside}
use Rattle.product_row.specs.Fields.{is_digits, is_number}
use Rattle.products.specs.Listing.{version_mark, is_version_line}

pub other_length : (line t : List ℕ) → (length line ≡ length t → ⊥) → same_text line t ≡ false
other_length line t differ = differ_same line t (λ same. differ (ap length same))

pub same_length : (line t : List ℕ) → length line ≡ length t → stands_at t line 0 ≡ same_text line t
same_length line t e = ap (λ (s : List ℕ). same_text s t) (ap (λ (n : ℕ). take n line) (sym e) ∙ take-length line)

first_low : (c : ℕ) → is_digit c ≡ true → (c ≡ 48 → ⊥) → 1 ≤ digit_value c
unfolding digit_value is_digit
first_low c digit some =
    let low : 48 ≤ c = leb-true 48 c (and_first (leb 48 c) (leb c 57) digit) in
    rw digit (omega arith)

-- a number of one or two digits from 1 on: its first is not 0
zero_first : (f : List ℕ) → get_or f 0 0 ≡ 48 → is_number 2 1 f ≡ false
unfolding is_number is_digits digit_value is_digit value all_of
zero_first [] zero = absurd (omega (arith, zero))
zero_first (c ∷ []) zero = rw zero
zero_first (c ∷ d ∷ s) zero =
    rw (zero, ne_eqb (length (c ∷ d ∷ s)) 1 (λ e. omega arith), and-false)

low_number : (f : List ℕ) → 1 ≤ length f → length f ≤ 2 → (get_or f 0 0 ≡ 48 → ⊥) → all_of is_digit f ≡ true → leb 1 (decimal_number f) ≡ true
unfolding value
low_number [] some short other all = absurd (omega arith)
low_number (c ∷ []) some short other all =
    le-leb 1 (decimal_number (c ∷ [])) (omega (arith, first_low c (all_first is_digit c [] all) other))
low_number (c ∷ d ∷ []) some short other all =
    le-leb 1 (decimal_number (c ∷ d ∷ [])) (omega (arith, first_low c (all_first is_digit c (d ∷ []) all) other))
low_number (c ∷ d ∷ e ∷ s) some short other all = absurd (omega arith)

other_first : (f : List ℕ) → 1 ≤ length f → length f ≤ 2 → (get_or f 0 0 ≡ 48 → ⊥) → is_number 2 1 f ≡ all_of is_digit f
unfolding is_number is_digits
other_first f some short other =
    either (all_of is_digit f)
    (λ all. rw (le-leb 1 (length f) some, le-leb (length f) 2 short, all, ne_eqb (get_or f 0 0) 48 other, or-true, low_number f some short other all))
    (λ bad. rw (le-leb 1 (length f) some, le-leb (length f) 2 short, bad))

module _ (line : List ℕ) where
  size : length (drop 9 line) ≡ length line - 9
  size = length-drop 9 line

  first : get_or (drop 9 line) 0 0 ≡ get_or line 9 0
  first = get_or-drop 9 line 0 0

  pub too_short : length line < 10 → is_version_line line ≡ false
  unfolding is_version_line is_number is_digits
  too_short short = rw (lt-leb 1 (length (drop 9 line)) (omega (arith, size))) (and-false (stands_at version_mark line 0))

  pub too_long : 11 < length line → is_version_line line ≡ false
  unfolding is_version_line is_number is_digits
  too_long long =
      rw (le-leb 1 (length (drop 9 line)) (omega (arith, size)), lt-leb (length (drop 9 line)) 2 (omega (arith, size)))
      (and-false (stands_at version_mark line 0))

  pub leading_zero : get_or line 9 0 ≡ 48 → is_version_line line ≡ false
  unfolding is_version_line
  leading_zero zero = rw (zero_first (drop 9 line) (first ∙ zero)) (and-false (stands_at version_mark line 0))

  pub version-digits
      : stands_at version_mark line 0 ≡ true → 10 ≤ length line → length line ≤ 11 → (get_or line 9 0 ≡ 48 → ⊥)
      → is_version_line line ≡ all_at is_digit (length line - 9) line 9
  unfolding is_version_line
  version-digits marked some short other =
      rw marked
      (other_first (drop 9 line) (omega (arith, size)) (omega (arith, size)) (λ zero. other (sym first ∙ zero))
      ∙ sym
      (all_inside is_digit (length line - 9) line 9 (omega arith)
      ∙ ap (all_of is_digit) (take_all (length line - 9) (drop 9 line) (omega (arith, size)))))

  pub version_by : 10 ≤ length line → length line ≤ 11
      → is_version_line line ≡ (stands_at version_mark line 0 && (not (eqb (get_or line 9 0) 48) && all_at is_digit (length line - 9) line 9))
  unfolding is_version_line
  version_by some short =
      either (stands_at version_mark line 0)
      (λ marked.
      either (eqb (get_or line 9 0) 48)
      (λ zero. leading_zero (eqb-true (get_or line 9 0) 48 zero) ∙ sym (rw (marked, zero)))
      (λ other. version-digits marked some short (eqb-false (get_or line 9 0) 48 other) ∙ sym (rw (marked, other))))
      (λ bad. rw bad)
