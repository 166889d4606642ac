-- How many digits the edition has, from the three bytes where it may stand.
-- Assumes nothing.
use mathlib.Core.Path.{◌≡◌, refl, ap, ◌∙◌}
use mathlib.Core.Bool.{true, false, cond}
use mathlib.Core.List.{List, [], ◌∷◌}
use Prim.Native.Nat.{ℕ, suc, ◌+◌, ◌-◌, ◌≤◌, ◌<◌}
use native.Mathlib.Omega.{arith}
use native.Mathlib.Nat.{add-zero}
use lib.ListN.{get_or, drop}
use lib.Seq.{drop-drop, get_or-drop}
use Rattle.text.specs.Characters.{is_digit}
use Rattle.cell_permit.specs.Line.{leading_digits, edition_length}

-- one digit and those after it; no byte is no digit
one_digit : (n : ℕ) (s : List ℕ) → leading_digits (suc n) s ≡ cond (is_digit (get_or s 0 0)) (suc (leading_digits n (drop 1 s))) 0
unfolding leading_digits is_digit
one_digit n [] = refl
one_digit n (c ∷ s) = refl

-- the same at a place of a line
digit_at : (n at : ℕ) (line : List ℕ)
    → leading_digits (suc n) (drop at line) ≡ cond (is_digit (get_or line at 0)) (suc (leading_digits n (drop (at + 1) line))) 0
digit_at n at line = one_digit n (drop at line) ∙ rw (get_or-drop, drop-drop, add-zero)

module _ (line : List ℕ) where
  -- after n digits, of the three at most that are counted
  pub one_more : (n : ℕ) → n < 3
      → leading_digits (3 - n) (drop (67 + n) line) ≡ cond (is_digit (get_or line (67 + n) 0)) (suc (leading_digits (3 - (n + 1)) (drop (67 + (n + 1)) line))) 0
  one_more n more =
      let left : 3 - n ≡ suc (3 - (n + 1)) = omega arith in
      let next : 67 + n + 1 ≡ 67 + (n + 1) = omega arith in
      ap (λ (k : ℕ). leading_digits k (drop (67 + n) line)) left
      ∙ digit_at (3 - (n + 1)) (67 + n) line
      ∙ ap (λ (k : ℕ). cond (is_digit (get_or line (67 + n) 0)) (suc (leading_digits (3 - (n + 1)) (drop k line))) 0) next

  pub no_more : (n : ℕ) → 3 ≤ n → leading_digits (3 - n) (drop (67 + n) line) ≡ 0
  unfolding leading_digits
  no_more n done = let none : 3 - n ≡ 0 = omega arith in rw none

  by_digits : edition_length line
      ≡ cond (is_digit (get_or line 67 0)) (suc (cond (is_digit (get_or line 68 0)) (suc (cond (is_digit (get_or line 69 0)) 1 0)) 0)) 0
  unfolding leading_digits
  by_digits = rw (digit_at 2 67 line, digit_at 1 68 line, digit_at 0 69 line)

  pub blank : is_digit (get_or line 67 0) ≡ false → 0 ≡ edition_length line
  blank e = rw (by_digits, e)

  pub one : is_digit (get_or line 67 0) ≡ true → is_digit (get_or line 68 0) ≡ false → 1 ≡ edition_length line
  one e f = rw (by_digits, e, f)

  pub two : is_digit (get_or line 67 0) ≡ true → is_digit (get_or line 68 0) ≡ true → is_digit (get_or line 69 0) ≡ false → 2 ≡ edition_length line
  two e f g = rw (by_digits, e, f, g)

  pub three : is_digit (get_or line 67 0) ≡ true → is_digit (get_or line 68 0) ≡ true → is_digit (get_or line 69 0) ≡ true → 3 ≡ edition_length line
  three e f g = rw (by_digits, e, f, g)
