-- The fields of a row of the product list: a text cut at its commas, and the forms that a field may have.
use Rattle.std.specs.Prelude.{Bool, true, false, cond, not, ◌&&◌, ◌||◌, List, [], ◌∷◌, ℕ, suc, leb, eqb, length, get_or, take, drop}
use Rattle.octets.specs.Every.{all_of}
use Rattle.text.specs.Ascii.{byte, ascii}
use Rattle.text.specs.Characters.{is_digit, is_name_character, decimal_number}
use Rattle.text.specs.Texts.{all_at, stands_at, onto}
use Rattle.forms.specs.DateText.{is_date_at}

-- how many bytes stand before the first c; all where there is none
unfoldable pub length_to : ℕ → List ℕ → ℕ
length_to c [] = 0
length_to c (b ∷ s) = cond (eqb b c) 0 (suc (length_to c s))

-- the fields: the texts between the commas, one more than there are commas
unfoldable pub fields_of : List ℕ → List (List ℕ)
fields_of [] = [] ∷ []
fields_of (c ∷ s) = cond (eqb c (byte ",")) ([] ∷ fields_of s) (onto c (fields_of s))

-- nothing stands there
unfoldable pub is_blank : List ℕ → Bool
is_blank [] = true
is_blank (c ∷ s) = false

-- of a form, or empty
abbrev pub or_blank : (List ℕ → Bool) → List ℕ → Bool
or_blank form f = is_blank f || form f

-- a cell's file: its name, eight of A-Z 0-9, and `.000`
unfoldable pub is_cell_file : List ℕ → Bool
is_cell_file f = eqb (length f) 12 && all_at is_name_character 8 f 0 && stands_at (ascii ".000") f 8

-- a date, YYYYMMDD
unfoldable pub is_date_text : List ℕ → Bool
is_date_text f = eqb (length f) 8 && is_date_at f 0

-- from one to n digits
unfoldable pub is_digits : ℕ → List ℕ → Bool
is_digits n f = leb 1 (length f) && leb (length f) n && all_of is_digit f

-- a number of n digits at most, without a leading zero, and not below low
unfoldable pub is_number : ℕ → ℕ → List ℕ → Bool
is_number n low f = is_digits n f && (eqb (length f) 1 || not (eqb (get_or f 0 0) (byte "0"))) && leb low (decimal_number f)

-- how many digits a text begins with
unfoldable pub digits_first : List ℕ → ℕ
digits_first [] = 0
digits_first (c ∷ s) = cond (is_digit c) (suc (digits_first s)) 0

-- nothing, or a point and one or more digits
unfoldable pub is_fraction : List ℕ → Bool
is_fraction s = is_blank s || eqb (get_or s 0 0) (byte ".") && leb 2 (length s) && all_of is_digit (drop 1 s)

-- one to three digits, and a fraction or none
unfoldable pub is_unsigned : List ℕ → Bool
is_unsigned s = leb 1 (digits_first s) && leb (digits_first s) 3 && is_fraction (drop (digits_first s) s)

-- degrees of arc: the same, and `-` before it or not
unfoldable pub is_degrees : List ℕ → Bool
is_degrees f = is_unsigned (cond (eqb (get_or f 0 0) (byte "-")) (drop 1 f) f)

-- an exchange set: `B` or `U`, and 1 to 99
unfoldable pub is_exchange_set : List ℕ → Bool
is_exchange_set f = (eqb (get_or f 0 0) (byte "B") || eqb (get_or f 0 0) (byte "U")) && is_number 2 1 (drop 1 f)

-- what stands before the first semicolon
abbrev pub before_semicolon : List ℕ → List ℕ
before_semicolon f = take (length_to (byte ";") f) f

-- what stands after it
abbrev pub after_semicolon : List ℕ → List ℕ
after_semicolon f = drop (suc (length_to (byte ";") f)) f

-- where a base cell is: an exchange set, with `M`, 1 to 99 and `;` before it or not
unfoldable pub is_location : List ℕ → Bool
is_location f =
    is_exchange_set f
    || eqb (get_or f 0 0) (byte "M") && is_number 2 1 (drop 1 (before_semicolon f)) && is_exchange_set (after_semicolon f)
