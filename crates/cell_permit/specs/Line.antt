-- Reading a line of PERMIT.TXT, given without its CR LF.
use Rattle.std.specs.Prelude.{Bool, cond, not, ◌&&◌, List, [], ◌∷◌, ℕ, zero, suc, ◌+◌, ◌-◌, leb, eqb, length, get_or, drop, Option, Some, None, Result, Ok, Err, ⊤}
use Rattle.octets.specs.Places.{number_at}
use Rattle.octets.specs.Padding.{unpad_of}
use Rattle.text.specs.Ascii.{byte}
use Rattle.text.specs.Characters.{between, raised_text, is_digit, is_hex, is_name_character, is_printable, hex_number, decimal_number}
use Rattle.text.specs.Texts.{part, all_at}
use Rattle.dates.specs.Calendar.{is_date}
use Rattle.dates.specs.Notice.{days_left, is_days, notice_of}
use Rattle.dates.specs.Notice as notice
use Rattle.dates.specs.declared.Notice.{Notice}
use Rattle.blowfish.specs.Cipher.{decipher_of}
use Rattle.forms.specs.Order.{demand}
use Rattle.forms.specs.Identifiers.{is_hw_id}
use Rattle.forms.specs.DateText.{is_date_at}
use Rattle.forms.specs.Refusals.{by, number_of, refused, refusal_number, unless}
use Rattle.forms.specs.declared.refusals.Refusal.{Refusal}
use Rattle.cell_permit.specs.CellPermit.{ship_words, check_of, comma}
use Rattle.cell_permit.specs.declared.FieldParts.{FieldParts}
use Rattle.cell_permit.specs.declared.Parts.{Parts}
use Rattle.cell_permit.specs.declared.PermitParts.{PermitParts}
use Rattle.cell_permit.specs.declared.Record.{Record}

-- the expiry's date as a number
abbrev pub expiry_of : List ℕ → ℕ
expiry_of line = decimal_number (part 8 line 8)

-- the first 64 bytes are cell name, expiry, enciphered key one, key two and check
unfoldable pub is_permit : List ℕ → Bool
is_permit line =
    all_at is_name_character 8 line 0 && is_date_at line 8
    && all_at is_hex 16 line 16 && all_at is_hex 16 line 32 && all_at is_hex 16 line 48

-- a comma stands at a place
abbrev pub comma_at : List ℕ → ℕ → Bool
comma_at line at = eqb (get_or line at 0) comma

-- how many digits s begins with; no more than n are counted
unfoldable pub leading_digits : ℕ → List ℕ → ℕ
leading_digits zero s = 0
leading_digits (suc n) [] = 0
leading_digits (suc n) (c ∷ s) = cond (is_digit c) (suc (leading_digits n s)) 0

-- how long the edition is: three digits at most, and none where it is blank
abbrev pub edition_length : List ℕ → ℕ
edition_length line = leading_digits 3 (drop 67 line)

-- where the comment begins, after the fourth comma
abbrev pub comment_place : List ℕ → ℕ
comment_place line = 71 + edition_length line

-- after the permit: a service level of 0 or 1, an edition without leading zero or none, a Data Server ID, and a comment, each after its comma
unfoldable pub is_tail : List ℕ → Bool
is_tail line =
    comma_at line 64 && between (byte "0") (byte "1") (get_or line 65 0)
    && comma_at line 66 && not (eqb (get_or line 67 0) (byte "0"))
    && comma_at line (67 + edition_length line) && all_at is_name_character 2 line (68 + edition_length line)
    && comma_at line (70 + edition_length line)
    && all_at is_printable (length line - comment_place line) line (comment_place line)

-- the line has the shape, and at most 160 bytes
unfoldable pub is_line : List ℕ → Bool
is_line line = leb (length line) 160 && is_permit line && is_tail line

-- the permit's parts
unfoldable pub permit_parts : List ℕ → PermitParts
permit_parts line = record {
  name = number_at 8 line 0;
  block1 = hex_number (part 16 line 16);
  block2 = hex_number (part 16 line 32);
  check = hex_number (part 16 line 48);
  expiry = expiry_of line;
}

-- the parts of the fields after it; a blank edition reads as 0
unfoldable pub field_parts : List ℕ → FieldParts
field_parts line = record {
  level = get_or line 65 0 - byte "0";
  edition = decimal_number (part (edition_length line) line 67);
  server = number_at 2 line (68 + edition_length line);
}

-- the line's parts
unfoldable pub parts_of : List ℕ → Parts
parts_of line = record { permit = permit_parts line; fields = field_parts line }

-- a line taken apart
unfoldable pub shape_of : List ℕ → Option Parts
shape_of line = cond (is_line line) (Some (parts_of line)) None

-- the comment is all that follows the fourth comma; the empty part for a line that gives 12
unfoldable pub comment_of : List ℕ → List ℕ
comment_of line = cond (is_line line) (drop (comment_place line) line) []

-- the notice of a service level and an expiry
abbrev pub notice_for : ℕ → ℕ → ℕ → ℕ → Notice
notice_for today days level expiry = notice_of level (days_left today expiry) days

-- both keys with right padding, else 21
abbrev pub record_of : ℕ → ℕ → Parts → Option ℕ → Option ℕ → Result Record Refusal
record_of today days p (Some one) (Some two) =
    Ok (record {
      name = p.permit.name;
      key1 = one;
      key2 = two;
      expiry = p.permit.expiry;
      level = p.fields.level;
      edition = p.fields.edition;
      server = p.fields.server;
      notice = notice_for today days p.fields.level p.permit.expiry;
    })
record_of today days p (Some one) None = refused (by 21)
record_of today days p None two = refused (by 21)

-- a cell key as it was before it was padded and enciphered
abbrev pub key_under : List ℕ → ℕ → Option ℕ
key_under words block = unpad_of 5 (decipher_of words block)

-- the check part is right for this HW_ID, else 13: enciphered values are compared, and that of the 48 characters is made with their letters raised
unfoldable pub checked : List ℕ → ℕ → ℕ → List ℕ → Parts → Result Record Refusal
checked words today days line p =
    demand (eqb p.permit.check (check_of words (raised_text (part 48 line 0)))) (refused (by 13))
    (record_of today days p (key_under words p.permit.block1) (key_under words p.permit.block2))

-- reading a line under the words of a ship
unfoldable pub read_with : List ℕ → ℕ → ℕ → List ℕ → Result Record Refusal
read_with words today days line = demand (is_line line) (refused (by 12)) (checked words today days line (parts_of line))

-- HW_ID, today and warning days as given: 18, then 14, then 103 for days that are no warning days
unfoldable pub given_answer : ℕ → ℕ → ℕ → Result ⊤ Refusal
given_answer hw today days =
    demand (is_hw_id hw) (refused (by 18))
    (demand (is_date today) (refused (by 14))
    (demand (is_days days) (refused (by 103)) (Ok tt)))

-- the number of that; 0 where nothing is refused
abbrev pub given_number : ℕ → ℕ → ℕ → ℕ
given_number hw today days = refusal_number (given_answer hw today days)

-- reading a line
unfoldable pub read_line : ℕ → ℕ → ℕ → List ℕ → Result Record Refusal
read_line hw today days line =
    unless (given_answer hw today days) refused (read_with (ship_words hw) today days line)

-- the answer's number: a record's is that of its notice
abbrev pub line_number : Result Record Refusal → ℕ
line_number (Ok r) = notice.notice_number r.notice
line_number (Err r) = number_of r

-- where the comment begins; none for a line that gives 12
unfoldable pub comment_at : List ℕ → Option ℕ
comment_at line = cond (is_line line) (Some (comment_place line)) None

-- where the comment's part begins; the empty part at the line's start for a line that gives 12
unfoldable pub comment_start : List ℕ → ℕ
comment_start line = cond (is_line line) (comment_place line) 0
