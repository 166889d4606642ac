-- What text promises: a number and its text undo one another, at every width.
use Rattle.std.specs.Prelude.{◌≡◌, ℕ, ◌^◌, ◌<◌, true, List, length}
use Rattle.octets.specs.Every.{all_of}
use Rattle.text.specs.Characters.{raised_text, is_digit, is_hex, hex_text, hex_number, decimal_text, decimal_number}

-- the number of the hex text of a number is the number
abbrev pub NumberOfHexText : Type 0
NumberOfHexText = (n x : ℕ) → x < 16 ^ n → hex_number (hex_text n x) ≡ x

-- the hex text of the number of a good text is the text with its letters raised
abbrev pub HexTextOfNumber : Type 0
HexTextOfNumber = (s : List ℕ) → all_of is_hex s ≡ true → hex_text (length s) (hex_number s) ≡ raised_text s

-- the number of the decimal text of a number is the number
abbrev pub NumberOfDecimalText : Type 0
NumberOfDecimalText = (n x : ℕ) → x < 10 ^ n → decimal_number (decimal_text n x) ≡ x

-- the decimal text of the number of digits is these digits
abbrev pub DecimalTextOfNumber : Type 0
DecimalTextOfNumber = (s : List ℕ) → all_of is_digit s ≡ true → decimal_text (length s) (decimal_number s) ≡ s
