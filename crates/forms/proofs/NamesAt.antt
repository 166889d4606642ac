-- A name at a place: its characters are the bytes of its number, which is one of such a text.
-- Assumes nothing.
use mathlib.Core.Path.{◌≡◌, ap, ◌∙◌}
use mathlib.Core.Bool.{true}
use mathlib.Core.List.{List}
use Prim.Native.Nat.{ℕ, ◌+◌, ◌^◌, ◌≤◌, ◌<◌}
use borrow.Author.Tests.{lt-ltb}
use lib.ListN.{length}
use Rattle.octets.specs.Numbers.{Below, bytes_of, bytes_number}
use Rattle.octets.specs.Places.{number_at}
use Rattle.octets.proofs.Digits.{digits_value, value_below}
use Rattle.octets.proofs.Places.{number_within, part_length}
use Rattle.text.specs.Characters.{is_name_character}
use Rattle.text.specs.Texts.{part, all_at}
use Rattle.text.proofs.NameTexts.{names_below}
use Rattle.text.proofs.TextsAt.{all_within, all_there}
use Rattle.forms.specs.Identifiers.{is_text}
use Rattle.forms.specs.Laws.{NameAt}

-- the bytes of a name at a place are those of its number
module _ (n : ℕ) (s : List ℕ) (at : ℕ) (all : all_at is_name_character n s at ≡ true) where
  within : at + n ≤ length s
  within = all_within is_name_character n s at all

  below : Below 256 (part n s at)
  below = names_below (part n s at) (all_there is_name_character n s at all)

  pub name_text : bytes_of n (number_at n s at) ≡ part n s at
  name_text =
      ap (bytes_of n) (number_within n s at within)
      ∙ rw (part_length n s at within) at (digits_value (part n s at) below)

pub name_at_lem : NameAt
unfolding is_text
name_at_lem n s at all =
    let fits : bytes_number (part n s at) < 256 ^ n = rw (part_length n s at (within n s at all)) at (value_below (part n s at) (below n s at all)) in
    rw (name_text n s at all, number_within n s at (within n s at all), lt-ltb (bytes_number (part n s at)) (256 ^ n) fits)
    (all_there is_name_character n s at all)
