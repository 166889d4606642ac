-- A text of A-Z 0-9 is one of bytes.
-- Assumes nothing.
use Rattle.std.proofs.Common.{◌≡◌, ℕ, ◌<◌, true, ltb, List, length, get_or, arith, ltb-false, ltb-true}
use lib.ListN.{get_or-eq_default}
use Rattle.octets.specs.Numbers.{Below}
use Rattle.octets.specs.Every.{all_of}
use Rattle.octets.proofs.Every.{either, all_at_lem}
use Rattle.text.specs.Characters.{is_digit, is_name_character}
use Rattle.text.proofs.Notations.{digit_high, between_high}

name_byte : (c : ℕ) → is_name_character c ≡ true → c < 256
unfolding is_name_character
name_byte c is =
    either (is_digit c)
    (λ digit. omega (arith, digit_high c digit))
    (λ letter. omega (arith, between_high 65 90 c (rw letter at is)))

-- those past its end being 0
pub names_below : (s : List ℕ) → all_of is_name_character s ≡ true → Below 256 s
names_below s all i =
    either (ltb i (length s))
    (λ inside. name_byte (get_or s i 0) (all_at_lem is_name_character s all i (ltb-true i (length s) inside)))
    (λ beyond. omega (arith, get_or-eq_default s 0 {n = i} (ltb-false i (length s) beyond)))
