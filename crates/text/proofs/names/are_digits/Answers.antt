-- `text::names::are_digits` meets its contract: no letter lies between A and the character before it.
-- Assumes nothing.
use Rattle.std.proofs.Common.{◌≡◌, ℕ, true, ◌||◌, leb, List, refl, ◌∙◌, arith, leb-true}
use Rattle.octets.specs.Every.{all_of}
use Rattle.octets.proofs.Every.{and_first, and_second, either, same_tests, all_weaken}
use Rattle.text.specs.Characters.{between, is_digit}
use Rattle.text.proofs.names.are_digits.Goals as goal

only_digits : (c : ℕ) → (is_digit c || between 65 64 c) ≡ true → is_digit c ≡ true
only_digits c e =
    either (is_digit c)
    (λ digit. digit)
    (λ other.
    let letter : between 65 64 c ≡ true = rw other at e in
    let low = leb-true 65 c (and_first (leb 65 c) (leb c 64) letter) in
    absurd (omega (arith, leb-true c 64 (and_second (leb 65 c) (leb c 64) letter))))

all_digits : (s : List ℕ) → all_of (λ (c : ℕ). is_digit c || between 65 64 c) s ≡ all_of is_digit s
all_digits s =
    same_tests (all_of (λ (c : ℕ). is_digit c || between 65 64 c) s) (all_of is_digit s)
    (λ all. all_weaken (λ (c : ℕ). is_digit c || between 65 64 c) is_digit only_digits s all)
    (λ all. all_weaken is_digit (λ (c : ℕ). is_digit c || between 65 64 c) (λ c digit. rw digit) s all)

pub are_digits_or_capitals-requires : goal.are_digits_or_capitals-requires
are_digits_or_capitals-requires c = refl

pub returns : goal.returns
returns c = c.are_digits_or_capitals.ensures ∙ all_digits _
