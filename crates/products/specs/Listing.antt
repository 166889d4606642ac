-- The product list, PRODUCTS.TXT: its header, its ENC part, and what is taken of it.
use Rattle.std.specs.Prelude.{Bool, true, ◌&&◌, ◌||◌, List, [], ◌∷◌, map, ℕ, leb, eqb, length, get_or, take, drop}
use Rattle.text.specs.Ascii.{byte, ascii}
use Rattle.text.specs.Texts.{same_text, stands_at}
use Rattle.file_lines.specs.EncPart.{lines_of, enc_lines, is_closed}
use Rattle.file_lines.specs.Dated.{is_below, is_dated}
use Rattle.product_row.specs.Fields.{is_number}
use Rattle.product_row.specs.Row.{fits, is_row, row_of}
use Rattle.product_row.specs.declared.Row.{Row}

-- the time ends with its minutes, or with seconds from 00 to 59
unfoldable pub is_time_end : List ℕ → Bool
is_time_end line = eqb (length line) 20 || eqb (length line) 23 && eqb (get_or line 20 0) (byte ":") && is_below 60 line 21

-- `:DATE YYYYMMDD HH:MM` or `:DATE YYYYMMDD HH:MM:SS`
unfoldable pub is_date_line : List ℕ → Bool
is_date_line line = is_dated line && is_time_end line

-- what stands before the version
abbrev pub version_mark : List ℕ
version_mark = ascii ":VERSION "

-- `:VERSION n`, 1 to 99
unfoldable pub is_version_line : List ℕ → Bool
is_version_line line = stands_at version_mark line 0 && is_number 2 1 (drop 9 line)

-- a full list, or a part of one: what the list says of a cell does not depend on it
unfoldable pub is_content_line : List ℕ → Bool
is_content_line line = same_text line (ascii ":CONTENT FULL") || same_text line (ascii ":CONTENT PARTIAL")

-- the line that the rows follow
unfoldable pub is_enc_line : List ℕ → Bool
is_enc_line line = same_text line (ascii ":ENC")

-- the header: these four lines, each ended by CR LF, so that something follows, be it the empty text
unfoldable pub is_header : List (List ℕ) → Bool
is_header lines = fits (is_date_line ∷ is_version_line ∷ is_content_line ∷ is_enc_line ∷ []) (take 4 lines) && leb 5 (length lines)

-- what follows the header
abbrev pub after_header : List ℕ → List (List ℕ)
after_header list = drop 4 (lines_of list)

-- each of some lines is a row
unfoldable pub all_rows : List (List ℕ) → Bool
all_rows [] = true
all_rows (line ∷ lines) = is_row line && all_rows lines

-- header and every row are good, and the ENC part is closed
unfoldable pub is_listing : List ℕ → Bool
is_listing list = is_header (lines_of list) && is_closed (after_header list) && all_rows (enc_lines (after_header list))

-- the rows of a list
unfoldable pub rows_of : List ℕ → List Row
rows_of list = map row_of (enc_lines (after_header list))
