-- The answers in their order, each from what was read.
-- Assumes nothing.
use mathlib.Core.Path.{◌≡◌, refl, sym, ap, ◌∙◌}
use mathlib.Core.Bool.{Bool, true, false, cond, ◌&&◌}
use mathlib.Core.List.{List, [], ◌∷◌, map}
use Prim.Native.Nat.{ℕ}
use lib.ListN.{drop}
use Rattle.std.proofs.Common.{None, Some, Ok}
use Rattle.forms.specs.Refusals.{by, refused}
use Rattle.file_lines.specs.EncPart.{lines_of, enc_lines, is_closed}
use Rattle.product_row.specs.Row.{row_of}
use Rattle.product_names.specs.Repeats.{repeats, name_of, names_from}
use Rattle.products.specs.Listing.{all_rows, is_listing, rows_of}
use Rattle.products.specs.Answers.{is_ships, own_row, standing_by, names_of, standing_of}
use Rattle.products.specs.Reading.{Begins, rises_from, rows_from, is_good_from, rows_read}
use Rattle.products.specs.declared.rows.Rows.{Rows}

-- the names of the rows are those of the lines
line_names : (lines : List (List ℕ)) → map name_of lines ≡ names_of (map row_of lines)
unfolding row_of
line_names [] = refl
line_names (l ∷ lines) = ap (λ (ns : List ℕ). name_of l ∷ ns) (line_names lines)

pub names_same : (list : List ℕ) (place : ℕ) → names_from list place ≡ names_of (rows_from list place)
names_same list place = line_names (enc_lines (lines_of (drop place list)))

-- what reading the rows says of each part of its answer
good_made : (t : Bool) (r rows : Rows) → Some rows ≡ cond t (Some r) None → (t ≡ true) × (rows ≡ r)
good_made true r rows made = (refl, cc)
good_made false r rows made = (cc, cc)

wrong_made : (t : Bool) (r : Rows) → None ≡ cond t (Some r) None → t ≡ false
wrong_made true r made = cc
wrong_made false r made = refl

module _ (list : List ℕ) (name edition update : ℕ) where
  pub bad_ships : is_ships name edition update ≡ false → standing_of list name edition update ≡ refused (by 103)
  unfolding standing_of
  bad_ships bad = rw bad

  module _ (good : is_ships name edition update ≡ true) where
    bad-list : is_listing list ≡ false → standing_of list name edition update ≡ refused (by 12)
    unfolding standing_of
    bad-list bad = rw (good, bad)

    pub bad_header : Begins list None → standing_of list name edition update ≡ refused (by 12)
    unfolding is_listing
    bad_header none = bad-list (rw none)

    module _ (first : ℕ) (begins : Begins list (Some first)) where
      same-list : is_listing list ≡ is_good_from list first
      unfolding is_listing is_good_from
      same-list =
          rw begins.0
          (ap (λ (lines : List (List ℕ)). is_closed lines && all_rows (enc_lines lines)) (sym begins.1.0))

      same_rows : rows_of list ≡ rows_from list first
      unfolding rows_of
      same_rows = ap (λ (lines : List (List ℕ)). map row_of (enc_lines lines)) (sym begins.1.0)

      pub bad-rows : None ≡ rows_read list first name → standing_of list name edition update ≡ refused (by 12)
      unfolding rows_read
      bad-rows made = bad-list (same-list ∙ wrong_made (is_good_from list first) _ made)

      module _ (rows : Rows) (made : Some rows ≡ rows_read list first name) where
        -- what the rows give
        abbrev all : Rows
        all = record { own = own_row name (rows_from list first); rising = rises_from 0 (names_of (rows_from list first)) }

        parts : (is_good_from list first ≡ true) × (rows ≡ all)
        unfolding rows_read
        parts = good_made (is_good_from list first) all rows made

        pub in_order : rows.rising ≡ rises_from 0 (names_of (rows_from list first))
        in_order = ap (λ (r : Rows). r.rising) parts.1

        pub twice : repeats (names_of (rows_from list first)) ≡ true → standing_of list name edition update ≡ refused (by 110)
        unfolding standing_of
        twice two = rw (good, same-list ∙ parts.0, same_rows, two)

        pub once : repeats (names_of (rows_from list first)) ≡ false → standing_of list name edition update ≡ Ok (standing_by rows.own edition update)
        unfolding standing_of
        once one = rw (good, same-list ∙ parts.0, same_rows, one, ap (λ (r : Rows). r.own) parts.1)
