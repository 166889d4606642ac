-- Taking the fields of a row one by one, from places. For contracts inside the crate alone.
use Rattle.std.specs.Prelude.{Option, None, Some, Bool, cond, not, ◌&&◌, ◌||◌, List, [], ◌∷◌, ℕ, suc, ◌+◌, leb, eqb, length, drop}
use Rattle.text.specs.Ascii.{byte}
use Rattle.text.specs.Texts.{part}
use Rattle.product_row.specs.Fields.{length_to, fields_of, digits_first}
use Rattle.product_row.specs.Row.{Form}

-- how many bytes the field that begins at a place has
abbrev pub field_length : List ℕ → ℕ → ℕ
field_length line at = length_to (byte ",") (drop at line)

-- where it ends: its comma, or the line's end
unfoldable pub field_ends : List ℕ → ℕ → ℕ
field_ends line at = at + field_length line at

-- the field
unfoldable pub field_at : List ℕ → ℕ → List ℕ
field_at line at = part (field_length line at) line at

-- how many fields begin at a place or after it
abbrev pub fields_left : List ℕ → ℕ → ℕ
fields_left line at = length (fields_of (drop at line))

-- the place after the field and its comma, where the field is of the form
unfoldable pub taken : Form → List ℕ → ℕ → Option ℕ
taken form line at = cond (form (field_at line at)) (Some (suc (field_ends line at))) None

-- the same of one field after another
unfoldable pub taken_all : List Form → List ℕ → ℕ → Option ℕ
taken_all [] line at = Some at
taken_all (form ∷ forms) line at = cond (form (field_at line at)) (taken_all forms line (suc (field_ends line at))) None

-- where the digits that begin at a place end
unfoldable pub digits_end : List ℕ → ℕ → ℕ
digits_end line at = at + digits_first (drop at line)

-- of how many digits and which first one a number may be, where low is 0 or 1
unfoldable pub is_numeral : ℕ → ℕ → ℕ → ℕ → Bool
is_numeral most low n first = leb 1 n && leb n most && (not (eqb first (byte "0")) || eqb n 1 && eqb low 0)
