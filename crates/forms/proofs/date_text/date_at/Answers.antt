-- `forms::date_text::date_at` meets its contract. Eight digits, and then a date.
-- Assumes nothing.
use mathlib.Core.Path.{◌≡◌, sym, ap, ◌∙◌}
use mathlib.Core.Bool.{true}
use mathlib.Core.List.{List}
use Prim.Native.Nat.{ℕ}
use native.Mathlib.Omega.{arith}
use Rattle.octets.specs.Numbers.{Below, bytes_of}
use Rattle.octets.specs.Places.{number_at}
use Rattle.octets.specs.Every.{all_of}
use Rattle.text.specs.Characters.{is_digit, decimal_number}
use Rattle.text.specs.Texts.{all_at}
use Rattle.forms.proofs.DateTexts.{digits-at, no_digits, number_small, no_date_lem, is-date}
use Rattle.forms.proofs.date_text.date_at.Goals as goal
use Rattle.forms.proofs.date_text.date_at.Goals.{After-are_digits, After-number_of-date}

-- the slice and the place, from where its digits were tested on
module _ (c : After-are_digits) where
  abbrev s : List ℕ
  s = c.args.s.now

  abbrev at : ℕ
  at = c.args.at

  below : Below 256 s
  below k = omega (arith, c.type_inv.s k)

  told : c.are_digits.result ≡ all_at is_digit 8 s at
  told = c.are_digits.ensures ∙ ap (λ (x : ℕ). all_of is_digit (bytes_of 8 x)) c.number64-x.ensures ∙ digits-at s at below

-- and from where they were good
module _ (c : After-number_of-date) where
  abbrev good : After-are_digits
  good = (goal.at.After-number_of-date c).After-are_digits

  all : all_at is_digit 8 (s good) (at good) ≡ true
  all = sym (told good) ∙ c.if-not-are_digits.false

  is : c.number_of-date.result ≡ decimal_number (bytes_of 8 (number_at 8 (s good) (at good)))
  is = c.number_of-date.ensures ∙ ap (λ (x : ℕ). decimal_number (bytes_of 8 x)) good.number64-x.ensures

pub returns-then-not-are_digits : goal.returns-then-not-are_digits
returns-then-not-are_digits c = no_digits (s (goal.at.returns-then-not-are_digits c).After-are_digits) (at (goal.at.returns-then-not-are_digits c).After-are_digits) (sym (told (goal.at.returns-then-not-are_digits c).After-are_digits) ∙ c.if-not-are_digits.true)

pub number_of-date-requires : goal.number_of-date-requires
number_of-date-requires c = sym c.are_digits.ensures ∙ c.if-not-are_digits.false

pub overflow_cast-date : goal.overflow_cast-date
overflow_cast-date c = omega (arith, number_small (s (good (goal.at.overflow_cast-date c).After-number_of-date)) (at (good (goal.at.overflow_cast-date c).After-number_of-date)) _ (below (good (goal.at.overflow_cast-date c).After-number_of-date)) (all (goal.at.overflow_cast-date c).After-number_of-date) (is (goal.at.overflow_cast-date c).After-number_of-date))

pub returns-then-not-is_date : goal.returns-then-not-is_date
returns-then-not-is_date c =
    let number = (goal.at.returns-then-not-is_date c).After-number_of-date in
    no_date_lem (s (good number)) (at (good number)) _ (below (good number)) (all number) (is number) (sym c.is_date.ensures ∙ c.if-not-is_date.true)

pub returns : goal.returns
returns c =
    let number = (goal.at.returns c).After-number_of-date in
    is-date (s (good number)) (at (good number)) _ (below (good number)) (all number) (is number) (sym c.is_date.ensures ∙ c.if-not-is_date.false)
