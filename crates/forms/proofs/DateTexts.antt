-- A date is read where eight digits at a place are one, and it is small.
-- Assumes nothing.
use Rattle.std.specs.Prelude.{None, Some}
use mathlib.Core.Path.{◌≡◌, refl, sym, ap, ◌∙◌}
use mathlib.Core.Bool.{Bool, true, false, cond}
use mathlib.Core.List.{List}
use Prim.Native.Nat.{ℕ, ◌+◌, ◌<◌, ◌^◌}
use native.Mathlib.Omega.{arith}
use borrow.Author.Tests.{leb-true, leb-false}
use lib.Dec.{leb}
use lib.ListN.{length}
use Rattle.octets.specs.Numbers.{digits, Below, bytes_of}
use Rattle.octets.specs.Places.{number_at}
use Rattle.octets.specs.Every.{all_of}
use Rattle.octets.proofs.Places.{bytes_at, number_beyond}
use Rattle.octets.proofs.Every.{and_first, and_second, either}
use Rattle.text.specs.Characters.{is_digit, decimal_number}
use Rattle.text.specs.Texts.{part, all_at}
use Rattle.text.proofs.TextsAt.{all_inside, all_beyond, all_within}
use Rattle.text.proofs.NumbersAt.{decimal_bound}
use Rattle.dates.specs.Calendar.{is_date}
use Rattle.forms.specs.DateText.{is_date_at, date_at}
use Rattle.forms.specs.Laws.{DateRight, DateWrong}

-- what a test makes a number or wrong
number_made : (t : Bool) (v x : ℕ) → cond t (Some v) None ≡ Some x → (t ≡ true) × (x ≡ v)
number_made true v x made = (refl, cc)
number_made false v x made = (cc, cc)

wrong_made : (t : Bool) (v : ℕ) → cond t (Some v) None ≡ None → t ≡ false
wrong_made true v made = cc
wrong_made false v made = refl

-- the bytes of the number at a place are eight digits where digits stand there
pub digits-at : (s : List ℕ) (at : ℕ) → Below 256 s → all_of is_digit (bytes_of 8 (number_at 8 s at)) ≡ all_at is_digit 8 s at
unfolding all_of digits is_digit
digits-at s at below =
    either (leb (at + 8) (length s))
    (λ within.
    let h = leb-true (at + 8) (length s) within in
    ap (all_of is_digit) (bytes_at 8 s at below h) ∙ sym (all_inside is_digit 8 s at h))
    (λ beyond.
    let h = leb-false (at + 8) (length s) beyond in
    rw (number_beyond 8 s at h, all_beyond is_digit 8 s at h))

module _ (s : List ℕ) (at : ℕ) where
  -- the eight digits as a number
  abbrev number : ℕ
  number = decimal_number (part 8 s at)

  small : all_at is_digit 8 s at ≡ true → number < 2 ^ 32
  small all = omega (arith, decimal_bound 8 s at all)

  pub no_digits : all_at is_digit 8 s at ≡ false → None ≡ date_at s at
  unfolding date_at is_date_at
  no_digits bad = rw bad

  module _ (x : ℕ) (below : Below 256 s) (all : all_at is_digit 8 s at ≡ true) (is : x ≡ decimal_number (bytes_of 8 (number_at 8 s at))) where
    same : x ≡ number
    same = is ∙ ap decimal_number (bytes_at 8 s at below (all_within is_digit 8 s at all))

    pub number_small : x < 2 ^ 32
    number_small = rw same (small all)

    pub no_date_lem : is_date x ≡ false → None ≡ date_at s at
    unfolding date_at is_date_at
    no_date_lem bad = let e : is_date number ≡ false = rw same at bad in rw (all, e)

    pub is-date : is_date x ≡ true → Some x ≡ date_at s at
    unfolding date_at is_date_at
    is-date good = let e : is_date number ≡ true = rw same at good in rw (all, e) (ap Some same)

-- what the test of a date at a place is made of
pub date_tests : (s : List ℕ) (at : ℕ) → is_date_at s at ≡ true → (all_at is_digit 8 s at ≡ true) × (is_date (number s at) ≡ true)
unfolding is_date_at
date_tests s at good =
    (and_first (all_at is_digit 8 s at) (is_date (number s at)) good, and_second (all_at is_digit 8 s at) (is_date (number s at)) good)

pub date_wrong : DateWrong
unfolding date_at
date_wrong s at made = wrong_made (is_date_at s at) (number s at) made

pub date_right : DateRight
unfolding date_at
date_right s at x made = (number_made (is_date_at s at) (number s at) x made).0

module _ (s : List ℕ) (at x : ℕ) (made : date_at s at ≡ Some x) where
  pub date_same : x ≡ number s at
  unfolding date_at
  date_same = (number_made (is_date_at s at) (number s at) x made).1

  pub date_small : x < 2 ^ 32
  date_small = rw date_same (small s at (date_tests s at (date_right s at x made)).0)
