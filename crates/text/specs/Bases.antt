-- Hex and decimal: the number of a text of digits, and the digits of a number. For contracts inside the crate alone.
use Rattle.std.specs.Prelude.{Bool, cond, ◌&&◌, List, ℕ, map, nat_le, Option, Some, None}
use Rattle.octets.specs.Numbers.{digits, value}
use Rattle.octets.specs.Every.{all_of}
use Rattle.text.specs.Characters.{is_hex, hex_value, hex_character, is_digit, digit_value, digit_character}
use Rattle.text.specs.Texts.{part, all_at}
use Rattle.text.specs.declared.digits.Base.{Base}
use Rattle.text.specs.declared.digits.Base.TheVariants.{Hex, Decimal}

-- the base
abbrev pub base_of : Base → ℕ
base_of Hex = 16
base_of Decimal = 10

-- how many digits at most make a number of 64 bits
abbrev pub most_of : Base → ℕ
most_of Hex = 16
most_of Decimal = 19

-- a character is a digit
abbrev pub is_in : Base → ℕ → Bool
is_in Hex = is_hex
is_in Decimal = is_digit

-- what it stands for; the base for one that is none
abbrev pub value_in : Base → ℕ → ℕ
value_in Hex = hex_value
value_in Decimal = digit_value

-- the character of a value below the base
abbrev pub character_in : Base → ℕ → ℕ
character_in Hex = hex_character
character_in Decimal = digit_character

-- the number of a text of digits; none where a character is no digit
unfoldable pub number_in : Base → List ℕ → Option ℕ
number_in base s = cond (all_of (is_in base) s) (Some (value (base_of base) (map (value_in base) s))) None

-- the number of the n digits from place at; none where they are not all digits, do not lie within s, or are more than are read
unfoldable pub number_at : Base → ℕ → List ℕ → ℕ → Option ℕ
number_at base n s at =
    cond (nat_le n (most_of base) && all_at (is_in base) n s at) (Some (value (base_of base) (map (value_in base) (part n s at)))) None

-- x in n digits
abbrev pub digits_in : Base → ℕ → ℕ → List ℕ
digits_in base n x = map (character_in base) (digits (base_of base) n x)
