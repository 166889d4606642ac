-- How the list is read, line by line. For contracts inside the crate alone.
use Rattle.std.specs.Prelude.{◌≡◌, Option, None, Some, Bool, true, false, cond, ◌&&◌, List, [], ◌∷◌, map, ℕ, ◌+◌, ◌≤◌, ltb, eqb, length, drop}
use Rattle.file_lines.specs.Lines.{line_at, line_found}
use Rattle.file_lines.specs.EncPart.{lines_of}
use Rattle.file_lines.specs.Walk.{enc_from, closed_from}
use Rattle.file_lines.specs.declared.LineFound.{LineFound}
use Rattle.file_lines.specs.declared.LineFound.TheVariants as found
use Rattle.product_row.specs.Row.{Form, row_of}
use Rattle.product_row.specs.declared.Row.{Row}
use Rattle.products.specs.Listing.{is_date_line, is_version_line, is_content_line, is_enc_line, is_header, after_header, all_rows}
use Rattle.products.specs.Answers.{own_row, names_of}
use Rattle.products.specs.declared.header.Kind.{Kind}
use Rattle.products.specs.declared.header.Kind.TheVariants.{Date, Version, Content, Enc}
use Rattle.products.specs.declared.rows.Rows.{Rows}

-- the test of each line of the header
abbrev pub kind_test : Kind → Form
kind_test Date = is_date_line
kind_test Version = is_version_line
kind_test Content = is_content_line
kind_test Enc = is_enc_line

-- the place after a line, where there is one and it passes
abbrev pub passed_by : Bool → LineFound → Option ℕ
passed_by good (found.Line end) = cond good (Some (end + 2)) None
passed_by good found.Unended = None
passed_by good found.End = None

-- the place after a header's line of a kind
unfoldable pub passed : Kind → List ℕ → ℕ → Option ℕ
passed kind list at = passed_by (kind_test kind (line_at list at)) (line_found list at)

-- where the rows begin: nowhere where the header is wrong, otherwise at a place with the lines after it
abbrev pub Begins : List ℕ → Option ℕ → Type 0
Begins list None = is_header (lines_of list) ≡ false
Begins list (Some place) = (is_header (lines_of list) ≡ true) × ((lines_of (drop place list) ≡ after_header list) × (place ≤ length list))

-- names, each above the one before
unfoldable pub rises_from : ℕ → List ℕ → Bool
rises_from last [] = true
rises_from last (x ∷ xs) = ltb last x && rises_from x xs

-- the row that was found, or the one that is found next
abbrev pub first_of : Option Row → Option Row → Option Row
first_of (Some row) next = Some row
first_of None next = next

-- the row where it has the name
abbrev pub own_if : ℕ → Row → Option Row
own_if name row = cond (eqb row.name name) (Some row) None

-- the rows from a place on
abbrev pub rows_from : List ℕ → ℕ → List Row
rows_from list place = map row_of (enc_from list place)

-- every line from a place on is a row, and the part is closed
unfoldable pub is_good_from : List ℕ → ℕ → Bool
is_good_from list place = closed_from list place && all_rows (enc_from list place)

-- what reading all rows from a place on gives: the cell's own row, and whether they are in name order
unfoldable pub rows_read : List ℕ → ℕ → ℕ → Option Rows
rows_read list place name =
    cond (is_good_from list place)
    (Some (record { own = own_row name (rows_from list place); rising = rises_from 0 (names_of (rows_from list place)) }))
    None
