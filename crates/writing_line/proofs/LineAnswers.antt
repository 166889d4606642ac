-- How long a written line is, and that it fits into the output that is lent for it.
-- Assumes nothing.
use Rattle.std.specs.Array.{IsFirstChunk}
use mathlib.Core.Path.{◌≡◌, refl, sym, ap, ◌∙◌}
use mathlib.Core.Bool.{true}
use mathlib.Core.List.{List, ◌++◌, append_assoc}
use Prim.Native.Nat.{ℕ, ◌+◌, ◌≤◌}
use native.Mathlib.Omega.{arith}
use lib.ListN.{length, drop, length-append, take-append-drop}
use lib.Seq.{length-take-le, drop-append-le}
use Rattle.text.specs.Texts.{placed, width}
use Rattle.text.proofs.PlacedTexts.{placed_start}
use Rattle.cell_permit.specs.CellPermit.{line_of, line_end, is_cell}
use Rattle.cell_permit.specs.declared.Cell.{Cell}
use Rattle.cell_permit.proofs.GoodCell.{good_cell}
use Rattle.cell_permit.proofs.LineSizes.{edition_few, line_size}

pub few_digits : (cell : Cell) → is_cell cell ≡ true → width cell.edition ≤ 3
few_digits cell good = edition_few cell (good_cell cell good)

-- the line with its CR LF
pub written_size : (words : List ℕ) (cell : Cell) (n : ℕ) → n ≡ width cell.edition → 73 + n ≡ length (line_of words cell ++ line_end)
written_size words cell n digits = simp length-append (omega (arith, line_size words cell))

-- where the first 76 bytes of an output are lent on
module _ (out first : List ℕ) (are : IsFirstChunk out first 76) where
  -- with the bytes after them they are the output
  pub kept : first ++ drop 76 out ≡ out
  kept = ap (λ (l : List ℕ). l ++ drop 76 out) are.same ∙ take-append-drop 76 out

  -- a line that is put there is put at the output's start
  pub line_at_start : (words : List ℕ) (cell : Cell) → is_cell cell ≡ true
      → placed 0 (line_of words cell ++ line_end) first ++ drop 76 out ≡ (line_of words cell ++ line_end) ++ drop (length (line_of words cell ++ line_end)) out
  line_at_start words cell good =
      let line = line_of words cell ++ line_end in
      let size : length first ≡ 76 = ap length are.same ∙ length-take-le 76 out are.enough in
      let fits : length line ≤ length first = omega (arith, written_size words cell (width cell.edition) refl, few_digits cell good) in
      ap (λ (l : List ℕ). l ++ drop 76 out) (placed_start line first fits)
      ∙ append_assoc line (drop (length line) first) (drop 76 out)
      ∙ ap (λ (l : List ℕ). line ++ l) (sym (drop-append-le (length line) first (drop 76 out) fits) ∙ ap (drop (length line)) kept)
