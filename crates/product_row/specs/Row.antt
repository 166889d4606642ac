-- A row of the product list: the forms of its fields in their order, and what is taken of it.
use Rattle.std.specs.Prelude.{Option, None, Some, Bool, true, false, cond, ◌&&◌, List, [], ◌∷◌, ◌++◌, ℕ, zero, suc, ◌-◌, leb, length, replicate}
use Rattle.octets.specs.Every.{all_of}
use Rattle.octets.specs.Places.{number_at}
use Rattle.text.specs.Characters.{is_printable, decimal_number}
use Rattle.product_row.specs.Fields.{fields_of, or_blank, is_cell_file, is_date_text, is_digits, is_number, is_degrees, is_location}
use Rattle.product_row.specs.declared.Row.{Row}

-- a form of a field
abbrev pub Form : Type 0
Form = List ℕ → Bool

-- there are as many fields as forms, and each is of its form
unfoldable pub fits : List Form → List (List ℕ) → Bool
fits [] [] = true
fits [] (f ∷ fs) = false
fits (form ∷ forms) [] = false
fits (form ∷ forms) (f ∷ fs) = form f && fits forms fs

-- what a row begins with: name, base cell issue date, edition, issue date of the latest update, latest update, file size
abbrev pub first_forms : List Form
first_forms = is_cell_file ∷ is_date_text ∷ is_number 3 0 ∷ or_blank is_date_text ∷ or_blank (is_number 3 0) ∷ or_blank (is_number 6 1) ∷ []

-- what it ends with: compression, encryption, base cell update number, last update of the previous edition, location, replacements
abbrev pub last_forms : List Form
last_forms =
    or_blank (is_number 2 0) ∷ or_blank (is_number 2 0) ∷ or_blank (is_digits 3) ∷ or_blank (is_digits 3) ∷ or_blank is_location ∷ all_of is_printable ∷ []

-- the forms of n fields: between those, the four limits and the coordinates of the coverage
abbrev pub row_forms : ℕ → List Form
row_forms n = first_forms ++ (replicate (n - 12) (or_blank is_degrees) ++ last_forms)

-- a row has no coordinates or up to 20, so 16 to 36 fields
unfoldable pub is_row : List ℕ → Bool
is_row line = leb 16 (length (fields_of line)) && leb (length (fields_of line)) 36 && fits (row_forms (length (fields_of line))) (fields_of line)

-- the field with so many before it; empty where there is none
unfoldable pub field_after : ℕ → List (List ℕ) → List ℕ
field_after n [] = []
field_after zero (f ∷ fs) = f
field_after (suc n) (f ∷ fs) = field_after n fs

-- what is taken of a row: the name, the edition, the latest update; a blank update is 0
unfoldable pub row_of : List ℕ → Row
row_of line = record {
  name = number_at 8 line 0;
  edition = decimal_number (field_after 2 (fields_of line));
  update = decimal_number (field_after 4 (fields_of line));
}

-- what reading a line gives: nothing where it is no row
unfoldable pub read_row : List ℕ → Option Row
read_row line = cond (is_row line) (Some (row_of line)) None
