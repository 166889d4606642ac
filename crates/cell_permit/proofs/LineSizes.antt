-- How long the parts of a written line are: 48 and 16 characters, and 7 with the edition's one to three.
-- Assumes nothing.
use mathlib.Core.Path.{◌≡◌}
use mathlib.Core.List.{List}
use Prim.Native.Nat.{ℕ, ◌+◌, ◌≤◌}
use native.Mathlib.Omega.{arith}
use lib.ListN.{length, length-append}
use Rattle.octets.specs.Numbers.{bytes_of}
use Rattle.octets.proofs.Digits.{digits-length}
use Rattle.text.specs.Characters.{hex_text, decimal_text}
use Rattle.text.specs.Texts.{width, numeral}
use Rattle.text.proofs.Alphabets.{text_length_lem}
use Rattle.text.proofs.Notations.{hex, decimal}
use Rattle.text.proofs.Numerals.{width-at-most, numeral-length}
use Rattle.cell_permit.specs.CellPermit.{key_part, unchecked, check_of, cell_permit, fields, line_of}
use Rattle.cell_permit.specs.declared.Cell.{Cell}
use Rattle.cell_permit.proofs.GoodCell.{Good}

-- the parts of the line that is written
abbrev pub name : Cell → List ℕ
name cell = bytes_of 8 cell.name

abbrev pub date : Cell → List ℕ
date cell = decimal_text 8 cell.expiry

abbrev pub check : List ℕ → Cell → List ℕ
check words cell = hex_text 16 (check_of words (unchecked words cell))

abbrev pub server : Cell → List ℕ
server cell = bytes_of 2 cell.server

-- how long the parts of the permit are
pub record Sizes (name date one two check : List ℕ) : Type 0 where
  pub name_size : length name ≡ 8
  pub date_size : length date ≡ 8
  pub one_size : length one ≡ 16
  pub two_size : length two ≡ 16
  pub check_size : length check ≡ 16

pub sizes : (words : List ℕ) (cell : Cell) → Sizes (name cell) (date cell) (key_part words cell.key1) (key_part words cell.key2) (check words cell)
unfolding key_part
sizes words cell =
    record {
      name_size = digits-length 256 8 cell.name;
      date_size = text_length_lem decimal 8 cell.expiry;
      one_size = text_length_lem hex 16 _;
      two_size = text_length_lem hex 16 _;
      check_size = text_length_lem hex 16 _;
    }

pub unchecked_size : (words : List ℕ) (cell : Cell) → length (unchecked words cell) ≡ 48
unfolding unchecked
unchecked_size words cell =
    let s = sizes words cell in
    simp length-append (omega (arith, s.name_size, s.date_size, s.one_size, s.two_size))

pub permit_size : (words : List ℕ) (cell : Cell) → length (cell_permit words cell) ≡ 64
unfolding cell_permit
permit_size words cell =
    simp length-append (omega (arith, unchecked_size words cell, (sizes words cell).check_size))

module _ (cell : Cell) where
  edition_size : length (numeral cell.edition) ≡ width cell.edition
  edition_size = numeral-length cell.edition

  pub edition_few : Good cell → width cell.edition ≤ 3
  edition_few good = width-at-most cell.edition 3 (omega (arith, good.high)) (omega arith)

  pub server_size : length (server cell) ≡ 2
  server_size = digits-length 256 2 cell.server

  pub fields_size : length (fields cell) ≡ 7 + width cell.edition
  unfolding fields
  fields_size =
      simp length-append (omega (arith, text_length_lem decimal 1 cell.level, edition_size, server_size))

pub line_size : (words : List ℕ) (cell : Cell) → length (line_of words cell) ≡ 71 + width cell.edition
unfolding line_of
line_size words cell = simp length-append (omega (arith, permit_size words cell, fields_size cell))
