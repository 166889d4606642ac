-- A line of fields has the shape, and what is read of it are those fields.
-- Assumes nothing.
use mathlib.Core.Path.{◌≡◌, refl, sym, ap, ◌∙◌}
use mathlib.Core.Bool.{true}
use mathlib.Core.List.{List, [], ◌∷◌, ◌++◌, append_assoc}
use Prim.Native.Nat.{ℕ, ◌+◌, ◌-◌, ◌/◌, ◌%◌, ◌≤◌}
use native.Mathlib.Omega.{arith}
use borrow.Author.Tests.{le-leb}
use lib.ListN.{length, get_or}
use Rattle.octets.specs.Numbers.{digits, bytes_of}
use Rattle.octets.specs.Places.{number_at}
use Rattle.octets.proofs.Digits.{digits-length}
use Rattle.text.specs.Characters.{is_name_character, digit_character, decimal_text, decimal_number}
use Rattle.text.specs.Texts.{part}
use Rattle.text.proofs.Alphabets.{text_length_lem, text_written_lem, number_of_text_fit}
use Rattle.text.proofs.Notations.{decimal}
use Rattle.dates.proofs.Parts.{date_fits}
use Rattle.forms.proofs.Fits.{text_fits, text_all}
use Rattle.cell_permit.specs.CellPermit.{comma}
use Rattle.cell_permit.specs.Line.{expiry_of, edition_length, is_permit, is_tail, is_line, permit_parts, field_parts, parts_of, shape_of, comment_of}
use Rattle.cell_permit.specs.LineFields.{LineFields, edition_text, permit_text, line_text, AreFields, parts_for, FieldsRead}
use Rattle.cell_permit.proofs.LineSizes.{Sizes}
use Rattle.cell_permit.proofs.Along.{From, part_there, rest_there, head_there, number_there}
use Rattle.cell_permit.proofs.PermitRead.{at_tail, expiry_read, one_read, two_read, check_read, permit_right}
use Rattle.cell_permit.proofs.TailRead.{tail_of, at_edition, level_read, at-server, at-comment, edition_length_lem, tail-right}
use Rattle.cell_permit.proofs.EditionTexts.{edition_digits, edition_few, edition_number, no_leading_zero}

regroup : (a b c d e l n s t : List ℕ) (level : ℕ) → l ≡ level ∷ []
    → a ++ b ++ c ++ d ++ e ++ comma ∷ l ++ comma ∷ n ++ comma ∷ s ++ comma ∷ t ≡ a ++ (b ++ (c ++ (d ++ (e ++ tail_of level n s t))))
regroup a b c d e l n s t level one = rw one (simp append_assoc)

-- the service level is one character
level_text : (level : ℕ) → level ≤ 1 → decimal_text 1 level ≡ (48 + level) ∷ []
unfolding digits digit_character
level_text level h = let e : level / 1 % 10 ≡ level = omega arith in rw e

-- a line in the order of its parts
pub in_order : (f : LineFields) → f.level ≤ 1
    → line_text f
    ≡ bytes_of 8 f.name ++ (decimal_text 8 f.expiry ++ (f.key1 ++ (f.key2 ++ (f.check ++ tail_of (48 + f.level) (edition_text f.edition) (bytes_of 2 f.server) f.comment))))
unfolding line_text permit_text
in_order f few =
    regroup (bytes_of 8 f.name) (decimal_text 8 f.expiry) f.key1 f.key2 f.check (decimal_text 1 f.level) (edition_text f.edition) (bytes_of 2 f.server) f.comment
    (48 + f.level) (level_text f.level few)

module _ (f : LineFields) (are : AreFields f) where
  abbrev name : List ℕ
  name = bytes_of 8 f.name

  abbrev date : List ℕ
  date = decimal_text 8 f.expiry

  abbrev edition : List ℕ
  edition = edition_text f.edition

  abbrev server : List ℕ
  server = bytes_of 2 f.server

  abbrev tail : List ℕ
  tail = tail_of (48 + f.level) edition server f.comment

  along : From (line_text f) 0 (name ++ (date ++ (f.key1 ++ (f.key2 ++ (f.check ++ tail)))))
  along = record { front = []; split = in_order f are.level; place = refl }

  sizes : Sizes name date f.key1 f.key2 f.check
  sizes =
      record {
        name_size = digits-length 256 8 f.name;
        date_size = text_length_lem decimal 8 f.expiry;
        one_size = are.key1.size;
        two_size = are.key2.size;
        check_size = are.check.size;
      }

  after_permit : From (line_text f) 64 tail
  after_permit = at_tail _ _ _ _ _ _ along sizes

  date_number : decimal_number date ≡ f.expiry
  date_number = number_of_text_fit decimal 8 f.expiry (date_fits f.expiry are.expiry)

  permit_good : is_permit (line_text f) ≡ true
  permit_good =
      permit_right _ _ _ _ _ _ along sizes
      (record {
        named = text_all is_name_character 8 f.name are.name;
        dated = text_written_lem decimal 8 f.expiry;
        one_hex = are.key1.hex;
        two_hex = are.key2.hex;
        check_hex = are.check.hex;
      })
      (rw date_number are.expiry)

  -- the edition begins at place 67, and its length is found there
  from_edition : From (line_text f) 67 (edition ++ (comma ∷ (server ++ (comma ∷ f.comment))))
  from_edition = at_edition _ edition server f.comment after_permit

  length_found : edition_length (line_text f) ≡ length edition
  length_found =
      edition_length_lem _ edition server f.comment after_permit _ refl (digits-length 256 2 f.server) (edition_digits f.edition) (edition_few f.edition are.edition)

  no_zero : get_or (line_text f) 67 0 ≡ 48 → ⊥
  no_zero e = no_leading_zero f.edition are.edition _ (sym (head_there _ from_edition) ∙ e)

  tail_good : is_tail (line_text f) ≡ true
  tail_good =
      tail-right _ edition server f.comment after_permit _ refl (digits-length 256 2 f.server) (edition_digits f.edition) (edition_few f.edition are.edition)
      (omega arith) (omega (arith, are.level)) no_zero
      (text_all is_name_character 2 f.server are.server) are.comment

  pub line_good : is_line (line_text f) ≡ true
  unfolding is_line
  line_good = rw (le-leb (length (line_text f)) 160 are.size, permit_good, tail_good)

  -- the values that stand in it
  expiry_back : expiry_of (line_text f) ≡ f.expiry
  expiry_back = expiry_read _ _ _ _ _ _ along sizes ∙ date_number

  name_back : number_at 8 (line_text f) 0 ≡ f.name
  name_back = number_there 8 f.name _ along (text_fits is_name_character 8 f.name are.name)

  level_back : get_or (line_text f) 65 0 - 48 ≡ f.level
  level_back = omega (arith, level_read _ edition server f.comment after_permit)

  edition_back : decimal_number (part (edition_length (line_text f)) (line_text f) 67) ≡ f.edition
  edition_back =
      rw length_found
      (ap decimal_number (part_there edition _ from_edition _ refl) ∙ edition_number f.edition are.edition)

  server_back : number_at 2 (line_text f) (68 + edition_length (line_text f)) ≡ f.server
  server_back =
      rw length_found
      (number_there 2 f.server _ (at-server _ edition server f.comment after_permit _ refl)
      (text_fits is_name_character 2 f.server are.server))

  pub parts_back : parts_of (line_text f) ≡ parts_for f
  unfolding parts_of permit_parts field_parts
  parts_back =
      rw (name_back, one_read _ _ _ _ _ _ along sizes, two_read _ _ _ _ _ _ along sizes, check_read _ _ _ _ _ _ along sizes, expiry_back, level_back, edition_back, server_back)

  comment_back : comment_of (line_text f) ≡ f.comment
  unfolding comment_of
  comment_back =
      rw (line_good, length_found)
      (rest_there _ (at-comment _ edition server f.comment after_permit _ refl (digits-length 256 2 f.server)))

pub fields_read : FieldsRead
unfolding shape_of
fields_read f are = (rw (line_good f are, parts_back f are), comment_back f are)
