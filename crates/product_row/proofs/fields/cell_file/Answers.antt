-- `product_row::fields::cell_file` meets its contract.
-- Assumes nothing.
use mathlib.Core.Path.{◌≡◌, ap, sym, ◌∙◌}
use Prim.Native.Nat.{ℕ}
use native.Mathlib.Omega.{arith}
use Rattle.octets.specs.Every.{all_of}
use Rattle.octets.specs.Numbers.{Below, bytes_of}
use Rattle.octets.specs.Places.{number_at}
use Rattle.text.specs.Characters.{is_name_character}
use Rattle.product_row.proofs.CellFiles.{too_short, no_end, no_name, no-ending, is-file}
use Rattle.product_row.proofs.fields.cell_file.Goals as goal
use Rattle.product_row.proofs.fields.cell_file.Goals.{After-are_name_characters}

-- the bytes are bytes, and the name's number is the one at the place
module _ (x : After-are_name_characters) where
  below : Below 256 x.args.line.now
  below i = omega (arith, x.type_inv.line i)

  name_test : let args = x.args in
      x.are_name_characters.result ≡ all_of is_name_character (bytes_of 8 (number_at 8 args.line.now args.at))
  name_test = x.are_name_characters.ensures ∙ ap (λ (n : ℕ). all_of is_name_character (bytes_of 8 n)) x.number64.ensures

pub returns-then-line-at-lt13 : goal.returns-then-line-at-lt13
returns-then-line-at-lt13 c = too_short _ _ c.requires c.if-line-at-lt13.true

pub returns-then-line-at-ne44 : goal.returns-then-line-at-ne44
returns-then-line-at-ne44 c = no_end _ _ c.requires c.if-line-at-ne44.true

pub returns-then-not-are_name_characters : goal.returns-then-not-are_name_characters
returns-then-not-are_name_characters c =
    let read = (goal.at.returns-then-not-are_name_characters c).After-are_name_characters in
    no_name _ _ c.requires (below read) c.if-line-at-lt13.false (sym (name_test read) ∙ c.if-not-are_name_characters.true)

pub returns-then-not-stands_at : goal.returns-then-not-stands_at
returns-then-not-stands_at c =
    let read = (goal.at.returns-then-not-stands_at c).After-are_name_characters in
    no-ending _ _ c.requires (below read) c.if-line-at-lt13.false (sym (name_test read) ∙ c.if-not-are_name_characters.false)
    (sym c.stands_at.ensures ∙ c.if-not-stands_at.true)

pub returns : goal.returns
returns c =
    let read = (goal.at.returns c).After-are_name_characters in
    is-file _ _ c.requires (below read) c.if-line-at-lt13.false (sym (name_test read) ∙ c.if-not-are_name_characters.false)
    (sym c.stands_at.ensures ∙ c.if-not-stands_at.false) c.if-line-at-ne44.false
