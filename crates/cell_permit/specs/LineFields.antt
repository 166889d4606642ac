-- A line of PERMIT.TXT in the words of the rules: its fields one after the other, with commas between. Given without its CR LF.
use Rattle.std.specs.Prelude.{◌≡◌, true, List, [], ◌∷◌, ◌++◌, ℕ, zero, suc, ◌≤◌, length, Some}
use Rattle.octets.specs.Numbers.{bytes_of}
use Rattle.octets.specs.Every.{all_of}
use Rattle.text.specs.Characters.{is_hex, is_printable, hex_number, decimal_text}
use Rattle.text.specs.Texts.{numeral}
use Rattle.dates.specs.Calendar.{is_date}
use Rattle.forms.specs.Identifiers.{is_cell_name, is_server_id}
use Rattle.cell_permit.specs.CellPermit.{comma}
use Rattle.cell_permit.specs.Line.{is_line, shape_of, comment_of}
use Rattle.cell_permit.specs.declared.Parts.{Parts}

-- what stands in a line; the two keys and the check enciphered, as the texts that they are
pub record LineFields : Type 0 where
  pub name : ℕ
  pub expiry : ℕ
  pub key1 : List ℕ
  pub key2 : List ℕ
  pub check : List ℕ
  -- 0 subscription, 1 single purchase
  pub level : ℕ
  -- 0 where it is blank
  pub edition : ℕ
  pub server : ℕ
  pub comment : List ℕ

-- an edition without leading zeros, or blank
unfoldable pub edition_text : ℕ → List ℕ
edition_text zero = []
edition_text (suc n) = numeral (suc n)

-- the permit: cell name, expiry, key one, key two and check
unfoldable pub permit_text : LineFields → List ℕ
permit_text f = bytes_of 8 f.name ++ decimal_text 8 f.expiry ++ f.key1 ++ f.key2 ++ f.check

-- the line: permit, service level, edition, Data Server ID and comment, with commas between
unfoldable pub line_text : LineFields → List ℕ
line_text f =
    permit_text f ++ comma ∷ decimal_text 1 f.level ++ comma ∷ edition_text f.edition ++ comma ∷ bytes_of 2 f.server ++ comma ∷ f.comment

-- 16 hex characters
pub record HexPart (s : List ℕ) : Type 0 where
  pub size : length s ≡ 16
  pub hex : all_of is_hex s ≡ true

-- each field is in its range and alphabet, the expiry is a date, and the line has at most 160 bytes
pub record AreFields (f : LineFields) : Type 0 where
  pub name : is_cell_name f.name ≡ true
  pub expiry : is_date f.expiry ≡ true
  pub key1 : HexPart f.key1
  pub key2 : HexPart f.key2
  pub check : HexPart f.check
  pub level : f.level ≤ 1
  pub edition : f.edition ≤ 999
  pub server : is_server_id f.server ≡ true
  -- commas included
  pub comment : all_of is_printable f.comment ≡ true
  pub size : length (line_text f) ≤ 160

-- what a line of these fields must be read as
abbrev pub parts_for : LineFields → Parts
parts_for f = record {
  permit = record {
    name = f.name;
    block1 = hex_number f.key1;
    block2 = hex_number f.key2;
    check = hex_number f.check;
    expiry = f.expiry;
  };
  fields = record { level = f.level; edition = f.edition; server = f.server };
}

-- a line of any fields is read as those, and its comment is the one that stands there
abbrev pub FieldsRead : Type 0
FieldsRead =
    (f : LineFields) → AreFields f
    → (shape_of (line_text f) ≡ Some (parts_for f)) × (comment_of (line_text f) ≡ f.comment)

-- fields of which this is the line
pub record WrittenAs (line : List ℕ) : Type 0 where
  pub fields : LineFields
  pub are : AreFields fields
  pub same : line_text fields ≡ line

-- no other line is read: each that is not refused with 12 is a line of fields
abbrev pub NoOtherLine : Type 0
NoOtherLine = (line : List ℕ) → is_line line ≡ true → WrittenAs line
