-- Each line that has the shape is a line of fields: those that are read of it.
-- Assumes nothing.
use mathlib.Core.Path.{◌≡◌, refl, sym, ap, ◌∙◌}
use mathlib.Core.Bool.{true}
use mathlib.Core.List.{List, ◌∷◌, ◌++◌}
use Prim.Native.Nat.{ℕ, zero, suc, ◌+◌, ◌-◌, ◌≤◌, ◌<◌}
use native.Mathlib.Nat.{add-zero, pow-le-pow_right}
use native.Mathlib.Numerals.{add-one}
use native.Mathlib.Omega.{arith}
use borrow.Author.Tests.{eqb-true}
use lib.ListN.{length, get_or, drop, length-drop, take-append-drop}
use lib.Seq.{drop-cons, drop-drop, take_all, get_or-drop, get_or-take}
use Rattle.octets.specs.Every.{all_of}
use Rattle.octets.specs.Places.{number_at}
use Rattle.octets.proofs.Places.{part_length}
use Rattle.text.specs.Characters.{is_digit, is_hex, is_printable, decimal_text, decimal_number}
use Rattle.text.specs.Texts.{part, all_at}
use Rattle.text.proofs.Alphabets.{text_of_number, number_below}
use Rattle.text.proofs.Notations.{decimal}
use Rattle.text.proofs.TextsAt.{all_within, all_there}
use Rattle.forms.specs.DateText.{is_date_at}
use Rattle.forms.proofs.DateTexts.{date_tests}
use Rattle.forms.proofs.NamesAt.{name_text, name_at_lem}
use Rattle.cell_permit.specs.CellPermit.{comma}
use Rattle.cell_permit.specs.Line.{comma_at, edition_length, expiry_of}
use Rattle.cell_permit.specs.LineFields.{LineFields, edition_text, line_text, HexPart, AreFields, NoOtherLine}
use Rattle.cell_permit.proofs.GoodLine.{GoodLine, good_line}
use Rattle.cell_permit.proofs.ReadFields.{comma-within, leading_all, edition_few}
use Rattle.cell_permit.proofs.TailRead.{tail_of}
use Rattle.cell_permit.proofs.EditionTexts.{edition_text_lem}
use Rattle.cell_permit.proofs.FieldsOfLines.{in_order}

hex_part : (s : List ℕ) (at : ℕ) → all_at is_hex 16 s at ≡ true → HexPart (part 16 s at)
hex_part s at all =
    record { size = part_length 16 s at (all_within is_hex 16 s at all); hex = all_there is_hex 16 s at all }

-- the eight digits of a date are those of its number
date_text : (s : List ℕ) (at : ℕ) → is_date_at s at ≡ true → decimal_text 8 (decimal_number (part 8 s at)) ≡ part 8 s at
date_text s at good =
    let digits = (date_tests s at good).0 in
    rw (part_length 8 s at (all_within is_digit 8 s at digits)) at (text_of_number decimal (part 8 s at) (all_there is_digit 8 s at digits))

-- the first byte of a part is that of its place, where it is no empty part
first_byte : (m : ℕ) (s : List ℕ) (at : ℕ) → get_or (part m s at) 0 0 ≡ 48 → get_or s at 0 ≡ 48
first_byte zero s at e = absurd (omega arith)
first_byte (suc m) s at e = rw (get_or-take (suc m) (drop at s) 0 0 (omega arith), get_or-drop, add-zero) at e

-- a text is taken off at a place, and what follows it stands at the next
module _ (s : List ℕ) (at next : ℕ) (rest : List ℕ) (there : drop next s ≡ rest) where
  then_part : (m : ℕ) → at + m ≡ next → drop at s ≡ part m s at ++ rest
  then_part m e =
      sym (take-append-drop m (drop at s))
      ∙ ap (λ (l : List ℕ). part m s at ++ l) (drop-drop m at s ∙ ap (λ (k : ℕ). drop k s) e ∙ there)

  then_byte : at < length s → at + 1 ≡ next → drop at s ≡ get_or s at 0 ∷ rest
  then_byte h e =
      drop-cons s at 0 h
      ∙ ap (λ (l : List ℕ). get_or s at 0 ∷ l) (ap (λ (k : ℕ). drop k s) (sym (add-one at) ∙ e) ∙ there)

  then_comma : comma_at s at ≡ true → at + 1 ≡ next → drop at s ≡ comma ∷ rest
  then_comma here e =
      then_byte (comma-within s at here) e ∙ ap (λ (c : ℕ). c ∷ rest) (eqb-true (get_or s at 0) comma here)

module _ (line : List ℕ) (good : GoodLine line) where
  abbrev n : ℕ
  n = edition_length line

  abbrev level : ℕ
  level = get_or line 65 0

  abbrev comment : List ℕ
  comment = drop (71 + n) line

  -- the line cut at its places
  cut : line ≡ part 8 line 0 ++ (part 8 line 8 ++ (part 16 line 16 ++ (part 16 line 32 ++ (part 16 line 48 ++ tail_of level (part n line 67) (part 2 line (68 + n)) comment))))
  cut =
      let from70 = then_comma line (70 + n) (71 + n) _ refl good.comma4 (omega arith) in
      let from68 = then_part line (68 + n) (70 + n) _ from70 2 (omega arith) in
      let from67n = then_comma line (67 + n) (68 + n) _ from68 good.comma3 (omega arith) in
      let from67 = then_part line 67 (67 + n) _ from67n n refl in
      let from66 = then_comma line 66 67 _ from67 good.comma2 refl in
      let from65 = then_byte line 65 66 _ from66 (omega (arith, comma-within line 66 good.comma2)) refl in
      let from64 = then_comma line 64 65 _ from65 good.comma1 refl in
      let from48 = then_part line 48 64 _ from64 16 refl in
      let from32 = then_part line 32 48 _ from48 16 refl in
      let from16 = then_part line 16 32 _ from32 16 refl in
      let from8 = then_part line 8 16 _ from16 8 refl in
      then_part line 0 8 _ from8 8 refl

  -- what is read of it
  abbrev fields : LineFields
  fields = record {
    name = number_at 8 line 0;
    expiry = expiry_of line;
    key1 = part 16 line 16;
    key2 = part 16 line 32;
    check = part 16 line 48;
    level = level - 48;
    edition = decimal_number (part n line 67);
    server = number_at 2 line (68 + n);
    comment = comment;
  }

  edition_length_lem : length (part n line 67) ≡ n
  edition_length_lem = part_length n line 67 (omega (arith, comma-within line (67 + n) good.comma3))

  edition_digits : all_of is_digit (part n line 67) ≡ true
  edition_digits = leading_all 3 (drop 67 line)

  at-most_three : length (part n line 67) ≤ 3
  at-most_three = omega (arith, edition_length_lem, edition_few line n refl)

  edition_back : edition_text (decimal_number (part n line 67)) ≡ part n line 67
  edition_back = edition_text_lem (part n line 67) edition_digits at-most_three (λ e. good.no_zero (first_byte n line 67 e))

  edition_small : decimal_number (part n line 67) ≤ 999
  edition_small =
      omega (arith, number_below decimal (part n line 67) edition_digits, pow-le-pow_right {n = 10} (omega arith) at-most_three)

  comment_printable : all_of is_printable comment ≡ true
  comment_printable =
      rw (take_all (length line - (71 + n)) comment (simp length-drop (omega arith)))
      at (all_there is_printable (length line - (71 + n)) line (71 + n) good.comment)

  same : line_text fields ≡ line
  same =
      let back : 48 + (level - 48) ≡ level = omega (arith, good.low) in
      in_order fields (omega (arith, good.high))
      ∙ rw (name_text 8 line 0 good.name, date_text line 8 good.expiry, back, edition_back, name_text 2 line (68 + n) good.server) (sym cut)

  are : AreFields fields
  are =
      record {
        name = name_at_lem 8 line 0 good.name;
        expiry = (date_tests line 8 good.expiry).1;
        key1 = hex_part line 16 good.key1;
        key2 = hex_part line 32 good.key2;
        check = hex_part line 48 good.check;
        level = omega (arith, good.high);
        edition = edition_small;
        server = name_at_lem 2 line (68 + n) good.server;
        comment = comment_printable;
        size = omega (arith, ap length same, good.short);
      }

pub no_other_line : NoOtherLine
no_other_line line test =
    let good = good_line line test in
    record { fields = fields line good; are = are line good; same = same line good }
