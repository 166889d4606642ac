-- The parts of a line, put one after the other, are the line.
-- Assumes nothing.
use mathlib.Core.Path.{◌≡◌, ap, ◌∙◌}
use mathlib.Core.List.{List, [], ◌∷◌, ◌++◌, append_assoc}
use Prim.Native.Nat.{ℕ, ◌+◌, ◌≤◌}
use native.Mathlib.Numerals.{add-one}
use native.Mathlib.Omega.{arith}
use lib.ListN.{length, take, drop, set, length-append}
use lib.Seq.{take_at}
use Rattle.octets.specs.Numbers.{digits}
use Rattle.text.specs.Characters.{hex_text, decimal_text}
use Rattle.text.specs.Texts.{placed, width, numeral}
use Rattle.text.proofs.Alphabets.{text_length_lem}
use Rattle.text.proofs.Notations.{decimal}
use Rattle.text.proofs.PlacedTexts.{placed_start, placed_first, placed-next}
use Rattle.cell_permit.specs.CellPermit.{comma, key_part, unchecked, check_of, cell_permit, fields, line_of, line_end}
use Rattle.cell_permit.specs.declared.Cell.{Cell}
use Rattle.cell_permit.proofs.LineSizes.{name, date, server, sizes, unchecked_size, permit_size, server_size, fields_size}

-- a text and the one after it
joined : (at n : ℕ) (t u s s₁ s₂ : List ℕ) → s₁ ≡ placed at t s → s₂ ≡ placed n u s₁ → n ≡ at + length t → at + (length t + length u) ≤ length s
    → s₂ ≡ placed at (t ++ u) s
joined at n t u s s₁ s₂ first second place room =
    second ∙ ap (placed n u) first ∙ placed-next at n t u s place room

-- a comma and n digits after it
pub number_placed : (at n x : ℕ) (s s₁ : List ℕ) → s₁ ≡ placed (at + 1) (decimal_text n x) (set s at comma) → at + (1 + n) ≤ length s
    → s₁ ≡ placed at (comma ∷ decimal_text n x) s
number_placed at n x s s₁ put room =
    put
    ∙ ap (λ (k : ℕ). placed k (decimal_text n x) (set s at comma)) (add-one at)
    ∙ placed_first at comma (decimal_text n x) s (omega (arith, text_length_lem decimal n x))

pub fields-placed : (cell : Cell) (n : ℕ) (s s₁ s₂ s₃ : List ℕ) → length s ≡ 76 → n ≡ width cell.edition → n ≤ 3
    → s₁ ≡ placed 64 (comma ∷ decimal_text 1 cell.level) s → s₂ ≡ placed 66 (comma ∷ decimal_text n cell.edition) s₁
    → s₃ ≡ placed (67 + n) ((comma ∷ server cell) ++ (comma ∷ [])) s₂ → s₃ ≡ placed 64 (fields cell) s
unfolding fields numeral
fields-placed cell n s s₁ s₂ s₃ room digits few e₁ e₂ e₃ =
    let e = cell.edition in
    let a : List ℕ = comma ∷ decimal_text 1 cell.level in
    let b : List ℕ = comma ∷ decimal_text n e in
    let d : List ℕ = (comma ∷ server cell) ++ (comma ∷ []) in
    let level : length (decimal_text 1 cell.level) ≡ 1 = text_length_lem decimal 1 cell.level in
    let edition : length (decimal_text n e) ≡ n = text_length_lem decimal n e in
    let last : length d ≡ 4 = simp length-append (omega (arith, server_size cell)) in
    let both : length (a ++ b) ≡ 3 + n = simp length-append (omega arith) in
    let f : s₂ ≡ placed 64 (a ++ b) s = joined 64 66 a b s s₁ s₂ e₁ e₂ (omega arith) (omega arith) in
    joined 64 (67 + n) (a ++ b) d s s₂ s₃ f e₃ (omega arith) (omega arith)
    ∙ ap (λ (l : List ℕ). placed 64 l s) (append_assoc a b d ∙ ap (λ (k : ℕ). a ++ ((comma ∷ decimal_text k e) ++ d)) digits)

module _ (words : List ℕ) (cell : Cell) (s : List ℕ) (room : length s ≡ 76) where
  pub unchecked-placed : (bytes s₁ s₂ s₃ s₄ : List ℕ) → bytes ≡ name cell → s₁ ≡ placed 0 bytes s → s₂ ≡ placed 8 (date cell) s₁
      → s₃ ≡ placed 16 (key_part words cell.key1) s₂ → s₄ ≡ placed 32 (key_part words cell.key2) s₃ → s₄ ≡ placed 0 (unchecked words cell) s
  unfolding unchecked
  unchecked-placed bytes s₁ s₂ s₃ s₄ e put e₂ e₃ e₄ =
      let e₁ : s₁ ≡ placed 0 (name cell) s = put ∙ ap (λ (l : List ℕ). placed 0 l s) e in
      let z = sizes words cell in
      let named : length (name cell) ≡ 8 = z.name_size in
      let dated : length (date cell) ≡ 8 = z.date_size in
      let one : length (key_part words cell.key1) ≡ 16 = z.one_size in
      let two : length (key_part words cell.key2) ≡ 16 = z.two_size in
      let two_parts : length (name cell ++ date cell) ≡ 16 = simp length-append (omega arith) in
      let three_parts : length ((name cell ++ date cell) ++ key_part words cell.key1) ≡ 32 = simp length-append (omega arith) in
      let f₂ : s₂ ≡ placed 0 (name cell ++ date cell) s = joined 0 8 (name cell) (date cell) s s₁ s₂ e₁ e₂ (omega arith) (omega arith) in
      let f₃ : s₃ ≡ placed 0 ((name cell ++ date cell) ++ key_part words cell.key1) s =
      joined 0 16 (name cell ++ date cell) (key_part words cell.key1) s s₂ s₃ f₂ e₃ (omega arith) (omega arith) in
      joined 0 32 ((name cell ++ date cell) ++ key_part words cell.key1) (key_part words cell.key2) s s₃ s₄ f₃ e₄ (omega arith) (omega arith)
      ∙ simp append_assoc

  -- the check is that of the 48 characters that stand there
  pub permit_placed : (check : ℕ) (s₁ s₂ : List ℕ) → s₁ ≡ placed 0 (unchecked words cell) s → check ≡ check_of words (take 48 s₁)
      → s₂ ≡ placed 48 (hex_text 16 check) s₁ → s₂ ≡ placed 0 (cell_permit words cell) s
  unfolding cell_permit
  permit_placed check s₁ s₂ e₁ e e₂ =
      let u = unchecked words cell in
      let size : length u ≡ 48 = unchecked_size words cell in
      let c : length (hex_text 16 (check_of words u)) ≡ 16 = (sizes words cell).check_size in
      let first : take 48 s₁ ≡ u = ap (take 48) (e₁ ∙ placed_start u s (omega arith)) ∙ take_at u (drop (length u) s) 48 size in
      joined 0 48 u (hex_text 16 (check_of words u)) s s₁ s₂ e₁
      (e₂ ∙ ap (λ (k : ℕ). placed 48 (hex_text 16 k) s₁) (e ∙ ap (check_of words) first))
      (omega arith) (omega arith)

  pub line_placed : (n : ℕ) (s₁ s₂ s₃ : List ℕ) → n ≡ width cell.edition → n ≤ 3
      → s₁ ≡ placed 0 (cell_permit words cell) s → s₂ ≡ placed 64 (fields cell) s₁ → s₃ ≡ placed (71 + n) line_end s₂
      → s₃ ≡ placed 0 (line_of words cell ++ line_end) s
  unfolding line_of
  line_placed n s₁ s₂ s₃ digits few e₁ e₂ e₃ =
      let permit : length (cell_permit words cell) ≡ 64 = permit_size words cell in
      let after : length (fields cell) ≡ 7 + width cell.edition = fields_size cell in
      let whole : length (cell_permit words cell ++ fields cell) ≡ 71 + n = simp length-append (omega arith) in
      let f : s₂ ≡ placed 0 (cell_permit words cell ++ fields cell) s =
      joined 0 64 (cell_permit words cell) (fields cell) s s₁ s₂ e₁ e₂ (omega arith) (omega arith) in
      joined 0 (71 + n) (cell_permit words cell ++ fields cell) line_end s s₂ s₃ f e₃ (omega arith) (omega arith)
