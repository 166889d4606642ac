-- A line that is written is in capitals: each of its parts is raised to itself.
-- Assumes nothing.
use mathlib.Core.Path.{◌≡◌, refl}
use mathlib.Core.List.{List, ◌++◌, map-append}
use Prim.Native.Nat.{ℕ}
use lib.Dec.{leb}
use Rattle.text.specs.Characters.{raised, raised_text, is_name_character, hex_text, decimal_text}
use Rattle.text.specs.Texts.{width, numeral}
use Rattle.text.proofs.Alphabets.{text_written_lem}
use Rattle.text.proofs.Notations.{hex, decimal}
use Rattle.text.proofs.Raising.{digits_stay, names_stay, written_stays}
use Rattle.forms.specs.Identifiers.{is_hw_id}
use Rattle.forms.specs.Output.{InCapitals, refusal, text}
use Rattle.forms.specs.Refusals.{by}
use Rattle.forms.proofs.Demands.{demanded}
use Rattle.forms.proofs.Fits.{text_all}
use Rattle.cell_permit.specs.CellPermit.{check_of, unchecked, cell_permit, fields, line_of, line_end, is_cell, ship_words, written_line}
use Rattle.cell_permit.specs.EitherCase.{WrittenInCapitals}
use Rattle.cell_permit.specs.declared.Cell.{Cell}
use Rattle.cell_permit.proofs.GoodCell.{Good, good_cell}
use Rattle.cell_permit.proofs.LineBack.{written_raised}
use Rattle.octets.specs.Numbers.{bytes_of}

numeral_stays : (x : ℕ) → raised_text (numeral x) ≡ numeral x
unfolding numeral
numeral_stays x = digits_stay (decimal_text (width x) x) (text_written_lem decimal (width x) x)

line_stays : (words : List ℕ) (cell : Cell) → Good cell → raised_text (line_of words cell ++ line_end) ≡ line_of words cell ++ line_end
unfolding line_of cell_permit fields raised
line_stays words cell good =
    simp map-append
    (rw (
      written_raised words cell good,
      written_stays (hex_text 16 (check_of words (unchecked words cell))) (text_written_lem hex 16 (check_of words (unchecked words cell))),
      digits_stay (decimal_text 1 cell.level) (text_written_lem decimal 1 cell.level),
      numeral_stays cell.edition,
      names_stay (bytes_of 2 cell.server) (text_all is_name_character 2 cell.server good.server),
    ))

pub written_in_capitals : WrittenInCapitals
unfolding written_line
written_in_capitals hw room cell =
    demanded InCapitals (leb 76 room) (refusal (by 108)) _ refl
    (λ _. demanded InCapitals (is_cell cell) (refusal (by 103)) _ refl
    (λ good. demanded InCapitals (is_hw_id hw) (refusal (by 18)) (text (line_of (ship_words hw) cell ++ line_end)) refl
    (λ _. line_stays (ship_words hw) cell (good_cell cell good))))
