-- What we issue reads back: a written line is a line of fields, its check is right, and its values are those that it was written from.
-- Assumes nothing.
use mathlib.Core.Path.{◌≡◌, refl, sym, ap, ◌∙◌}
use mathlib.Core.Bool.{true}
use mathlib.Core.List.{List, [], ◌∷◌, ◌++◌, append_assoc, map-append}
use Prim.Native.Nat.{ℕ, ◌^◌}
use native.Mathlib.Omega.{arith}
use borrow.Author.Tests.{le-leb, eq-eqb}
use lib.ListN.{length}
use Rattle.octets.specs.Numbers.{Below}
use Rattle.octets.specs.Every.{all_of}
use Rattle.octets.specs.Padding.{pad_of}
use Rattle.octets.proofs.Every.{either}
use Rattle.text.specs.Characters.{raised_text, is_name_character, hex_text, hex_number, decimal_text}
use Rattle.text.specs.Texts.{part}
use Rattle.text.proofs.Alphabets.{text_length_lem, text_written_lem, written_is_read, number_of_text_fit}
use Rattle.text.proofs.Notations.{hex, decimal}
use Rattle.text.proofs.Raising.{digits_stay, names_stay, written_stays}
use Rattle.blowfish.specs.Cipher.{encipher_of}
use Rattle.forms.specs.Identifiers.{is_hw_id}
use Rattle.forms.proofs.Fits.{text_all}
use Rattle.forms.proofs.Numbered.{none_refused}
use Rattle.cell_permit.specs.CellPermit.{comma, key_part, unchecked, check_of, cell_permit, fields, line_of, ship_words, written_line}
use Rattle.cell_permit.specs.Line.{is_line, parts_of, checked, read_with, given_answer, given_number, read_line}
use Rattle.cell_permit.specs.LineFields.{LineFields, permit_text, line_text, HexPart, AreFields, parts_for}
use Rattle.cell_permit.specs.ReadBack.{record_for, LineReadsBack}
use Rattle.cell_permit.specs.declared.Cell.{Cell}
use Rattle.cell_permit.proofs.ShipCipher.{ship_words_lem, key_back, enciphered_below}
use Rattle.cell_permit.proofs.GoodCell.{Good, good_cell}
use Rattle.cell_permit.proofs.LineSizes.{name, date, check, server, unchecked_size, edition_few, line_size}
use Rattle.cell_permit.proofs.Along.{part_there}
use Rattle.cell_permit.proofs.EditionTexts.{positive_text}
use Rattle.cell_permit.proofs.FieldsOfLines.{line_good, parts_back}

regroup : (a b c d e l n s : List ℕ)
    → ((a ++ (b ++ (c ++ d))) ++ e) ++ ((comma ∷ l) ++ ((comma ∷ n) ++ ((comma ∷ s) ++ (comma ∷ []))))
    ≡ a ++ b ++ c ++ d ++ e ++ comma ∷ l ++ comma ∷ n ++ comma ∷ s ++ comma ∷ []
regroup a b c d e l n s = simp append_assoc

hex_part : (x : ℕ) → HexPart (hex_text 16 x)
hex_part x = record { size = text_length_lem hex 16 x; hex = written_is_read hex (hex_text 16 x) (text_written_lem hex 16 x) }

module _ (words : List ℕ) (cell : Cell) (good : Good cell) where
  -- the fields that are written
  abbrev written : LineFields
  written = record {
    name = cell.name;
    expiry = cell.expiry;
    key1 = key_part words cell.key1;
    key2 = key_part words cell.key2;
    check = check words cell;
    level = cell.level;
    edition = cell.edition;
    server = cell.server;
    comment = [];
  }

  as_fields : line_of words cell ≡ line_text written
  unfolding line_of cell_permit unchecked fields line_text permit_text
  as_fields =
      rw (positive_text cell.edition good.low)
      (regroup (name cell) (date cell) (key_part words cell.key1) (key_part words cell.key2) (check words cell) (decimal_text 1 cell.level) _ (server cell))

  are_fields : AreFields written
  unfolding key_part all_of
  are_fields =
      record {
        name = good.name;
        expiry = good.expiry;
        key1 = hex_part _;
        key2 = hex_part _;
        check = hex_part _;
        level = good.level;
        edition = good.high;
        server = good.server;
        comment = refl;
        size = omega (arith, ap length as_fields, line_size words cell, edition_few cell good);
      }

  is_line_lem : is_line (line_of words cell) ≡ true
  is_line_lem = ap is_line as_fields ∙ line_good written are_fields

  parts : parts_of (line_of words cell) ≡ parts_for written
  parts = ap parts_of as_fields ∙ parts_back written are_fields

  first_48 : part 48 (line_of words cell) 0 ≡ unchecked words cell
  unfolding line_of cell_permit
  first_48 =
      part_there (unchecked words cell) (check words cell ++ fields cell)
      (record { front = []; split = append_assoc (unchecked words cell) (check words cell) (fields cell); place = refl })
      48 (unchecked_size words cell)

  key_stays : (key : ℕ) → raised_text (key_part words key) ≡ key_part words key
  unfolding key_part
  key_stays key = written_stays _ (text_written_lem hex 16 _)

  -- what is written has no small letters, so its check is taken of it as it stands
  pub written_raised : raised_text (unchecked words cell) ≡ unchecked words cell
  unfolding unchecked
  written_raised =
      simp map-append
      (rw (
        names_stay (name cell) (text_all is_name_character 8 cell.name good.name),
        digits_stay (date cell) (text_written_lem decimal 8 cell.expiry),
        key_stays cell.key1,
        key_stays cell.key2,
      ))

  module _ (good-words : Below (2 ^ 32) words) where
    key-number : (key : ℕ) → hex_number (key_part words key) ≡ encipher_of words (pad_of 5 key)
    unfolding key_part
    key-number key = number_of_text_fit hex 16 _ (enciphered_below words good-words 5 key (omega arith))

    check-back : hex_number (check words cell) ≡ check_of words (raised_text (part 48 (line_of words cell) 0))
    unfolding check_of
    check-back =
        number_of_text_fit hex 16 (check_of words (unchecked words cell)) (enciphered_below words good-words 4 _ (omega arith))
        ∙ ap (check_of words) (sym (ap raised_text first_48 ∙ written_raised))

    read_back : (today days : ℕ) → read_with words today days (line_of words cell) ≡ record_for today days cell
    unfolding read_with checked
    read_back today days =
        rw (is_line_lem, parts, eq-eqb _ _ check-back, key-number cell.key1, key-number cell.key2, key_back words good-words cell.key1 good.key1, key_back words good-words cell.key2 good.key2)

given_hw : (hw today days : ℕ) → given_number hw today days ≡ 0 → is_hw_id hw ≡ true
unfolding given_answer
given_hw hw today days given =
    either (is_hw_id hw) (λ good. good) (λ bad. let wrong : ◌≡◌ {A = ℕ} 18 0 = rw bad at given in absurd (omega arith))

pub line_reads_back : LineReadsBack
unfolding written_line read_line
line_reads_back hw today days room cell test given fits =
    let good = good_cell cell test in
    let words = ship_words hw in (
      rw (le-leb 76 room fits, test, given_hw hw today days given),
      (
        omega (arith, line_size words cell, edition_few cell good),
        rw (none_refused (given_answer hw today days) given) (read_back words cell good (ship_words_lem hw) today days),
      ),
    )
