-- Cell permits, 64 characters, and the line that is written with one.
use Rattle.std.specs.Prelude.{Bool, ◌&&◌, List, [], ◌∷◌, ◌++◌, ℕ, leb}
use Rattle.octets.specs.Numbers.{bytes_of}
use Rattle.octets.specs.Padding.{pad_of}
use Rattle.text.specs.Ascii.{byte, ascii}
use Rattle.text.specs.Characters.{hex_text, decimal_text}
use Rattle.text.specs.Texts.{numeral}
use Rattle.dates.specs.Calendar.{is_date}
use Rattle.crc32.specs.Crc32.{crc32_of}
use Rattle.blowfish.specs.Cipher.{encipher_of}
use Rattle.blowfish.specs.Schedule.{schedule}
use Rattle.forms.specs.Order.{demand}
use Rattle.forms.specs.Identifiers.{is_hw_id, raised_hw_id, is_cell_name, is_cell_key, is_server_id, hw_id6}
use Rattle.forms.specs.Output.{Output, text, refusal}
use Rattle.forms.specs.Refusals.{by}
use Rattle.cell_permit.specs.declared.Cell.{Cell}

-- the words of a ship: those of HW_ID6, made of the HW_ID with its letters raised
unfoldable pub ship_words : ℕ → List ℕ
ship_words hw = schedule (hw_id6 (raised_hw_id hw))

-- a cell key, padded and enciphered, in 16 hex characters
unfoldable pub key_part : List ℕ → ℕ → List ℕ
key_part words key = hex_text 16 (encipher_of words (pad_of 5 key))

-- cell name, expiry and both keys: the first 48 characters
unfoldable pub unchecked : List ℕ → Cell → List ℕ
unchecked words cell =
    bytes_of 8 cell.name ++ (decimal_text 8 cell.expiry ++ (key_part words cell.key1 ++ key_part words cell.key2))

-- the check of 48 characters: their CRC-32, four bytes, padded and enciphered
unfoldable pub check_of : List ℕ → List ℕ → ℕ
check_of words s = encipher_of words (pad_of 4 (crc32_of s))

-- the cell permit
unfoldable pub cell_permit : List ℕ → Cell → List ℕ
cell_permit words cell = unchecked words cell ++ hex_text 16 (check_of words (unchecked words cell))

-- the comma between fields
abbrev pub comma : ℕ
comma = byte ","

-- service level, edition without leading zeros, Data Server ID and an empty comment, each after its comma
unfoldable pub fields : Cell → List ℕ
fields cell =
    (comma ∷ decimal_text 1 cell.level) ++ ((comma ∷ numeral cell.edition) ++ ((comma ∷ bytes_of 2 cell.server) ++ (comma ∷ [])))

-- the line without its CR LF
unfoldable pub line_of : List ℕ → Cell → List ℕ
line_of words cell = cell_permit words cell ++ fields cell

-- CR LF
abbrev pub line_end : List ℕ
line_end = ascii "\r\n"

-- each value is in its range and alphabet, and the expiry is a date
unfoldable pub is_cell : Cell → Bool
is_cell cell =
    is_cell_name cell.name && is_date cell.expiry && is_cell_key cell.key1 && is_cell_key cell.key2
    && leb cell.level 1 && (leb 1 cell.edition && leb cell.edition 999) && is_server_id cell.server

-- writing a line, into an output of so many bytes
unfoldable pub written_line : ℕ → Cell → ℕ → Output
written_line hw cell room =
    demand (leb 76 room) (refusal (by 108))
    (demand (is_cell cell) (refusal (by 103))
    (demand (is_hw_id hw) (refusal (by 18))
    (text (line_of (ship_words hw) cell ++ line_end))))
