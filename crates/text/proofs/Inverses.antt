-- A number and its text undo one another: the laws over alphabet and width, at those of the rules. Assumes nothing.
use Rattle.std.proofs.Common.{◌≡◌, ℕ, true, List, ◌∙◌}
use lib.ListN.{length-map}
use Rattle.octets.proofs.Places.{part_length}
use Rattle.text.specs.Characters.{raised, raised_text, is_hex, hex_text, hex_number}
use Rattle.text.specs.Texts.{part, all_at}
use Rattle.text.specs.Inverse.{NumberOfHexText, HexTextOfNumber, NumberOfDecimalText, DecimalTextOfNumber}
use Rattle.text.proofs.Alphabets.{number_of_text_fit, text_of_number}
use Rattle.text.proofs.Notations.{upper, hex, decimal}
use Rattle.text.proofs.Raising.{hex_raised, number_raised}
use Rattle.text.proofs.TextsAt.{all_within, all_there}

pub number_of_hex_text : NumberOfHexText
number_of_hex_text n x = number_of_text_fit hex n x

pub hex_text_of_number : HexTextOfNumber
hex_text_of_number s all =
    rw (length-map s raised, number_raised s) at (text_of_number upper (raised_text s) (hex_raised s ∙ all))

-- so the number of the hex at a place gives that hex again, in capitals
pub hex_text_at : (n : ℕ) (s : List ℕ) (at : ℕ) → all_at is_hex n s at ≡ true → hex_text n (hex_number (part n s at)) ≡ raised_text (part n s at)
hex_text_at n s at all =
    rw (part_length n s at (all_within is_hex n s at all)) at (hex_text_of_number (part n s at) (all_there is_hex n s at all))

pub number_of_decimal_text : NumberOfDecimalText
number_of_decimal_text n x = number_of_text_fit decimal n x

pub decimal_text_of_number : DecimalTextOfNumber
decimal_text_of_number s = text_of_number decimal s
