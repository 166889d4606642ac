-- The alphabets of the rules, what a hex character and a digit stand for, and numbers as text.
use Rattle.std.specs.Prelude.{ℕ, ◌+◌, ◌-◌, Bool, cond, ◌&&◌, ◌||◌, List, map, nat_le, nat_lt}
use Rattle.text.specs.Ascii.{byte}
use Rattle.octets.specs.Numbers.{digits, value}
use Rattle.text.specs.declared.characters.Alphabet.{Alphabet}
use Rattle.text.specs.declared.characters.Alphabet.TheVariants.{Digit, UpperHex, Name, Printable}

-- c is one of the characters from low to high
abbrev pub between : ℕ → ℕ → ℕ → Bool
between low high c = nat_le low c && nat_le c high

-- 0-9
unfoldable pub is_digit : ℕ → Bool
is_digit c = between (byte "0") (byte "9") c

-- a letter a-z raised to A-Z; any other byte as it is
unfoldable pub raised : ℕ → ℕ
raised c = cond (between (byte "a") (byte "z") c) (c - byte "a" + byte "A") c

-- a text with its letters raised
abbrev pub raised_text : List ℕ → List ℕ
raised_text s = map raised s

-- 0-9 A-F, as hex is written
unfoldable pub is_upper_hex : ℕ → Bool
is_upper_hex c = is_digit c || between (byte "A") (byte "F") c

-- 0-9 A-F a-f, as hex is read: in either case
unfoldable pub is_hex : ℕ → Bool
is_hex c = is_upper_hex (raised c)

-- A-Z 0-9
unfoldable pub is_name_character : ℕ → Bool
is_name_character c = is_digit c || between (byte "A") (byte "Z") c

-- 20 to 7E hex: what a comment is made of
unfoldable pub is_printable : ℕ → Bool
is_printable c = between (byte " ") (byte "~") c

-- the test of each alphabet
abbrev pub test_of : Alphabet → ℕ → Bool
test_of Digit = is_digit
test_of UpperHex = is_upper_hex
test_of Name = is_name_character
test_of Printable = is_printable

-- what one of 0-9 A-F stands for; 16 for a byte that is none
unfoldable pub upper_hex_value : ℕ → ℕ
upper_hex_value c = cond (is_digit c) (c - byte "0") (cond (between (byte "A") (byte "F") c) (c - byte "A" + 10) 16)

-- what a hex character in either case stands for
unfoldable pub hex_value : ℕ → ℕ
hex_value c = upper_hex_value (raised c)

-- the hex character, upper case, of a value below 16
unfoldable pub hex_character : ℕ → ℕ
hex_character v = cond (nat_lt v 10) (byte "0" + v) (byte "A" + (v - 10))

-- what a digit stands for; 10 for a byte that is none
unfoldable pub digit_value : ℕ → ℕ
digit_value c = cond (is_digit c) (c - byte "0") 10

-- the digit of a value below 10
unfoldable pub digit_character : ℕ → ℕ
digit_character v = byte "0" + v

-- x in n hex characters
abbrev pub hex_text : ℕ → ℕ → List ℕ
hex_text n x = map hex_character (digits 16 n x)

-- the number of a hex text
abbrev pub hex_number : List ℕ → ℕ
hex_number s = value 16 (map hex_value s)

-- x in n decimal digits
abbrev pub decimal_text : ℕ → ℕ → List ℕ
decimal_text n x = map digit_character (digits 10 n x)

-- the number of a decimal text
abbrev pub decimal_number : List ℕ → ℕ
decimal_number s = value 10 (map digit_value s)
