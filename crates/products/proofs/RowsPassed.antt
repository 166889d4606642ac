-- Reading the rows one after the other: what is known of all of them at each place.
-- Assumes nothing.
use mathlib.Core.Path.{◌≡◌, refl, sym, ap, ◌∙◌}
use mathlib.Core.Bool.{Bool, true, false, ◌&&◌, and-true, and-false, and_assoc}
use mathlib.Core.List.{List, [], ◌∷◌}
use Prim.Native.Nat.{ℕ, ◌+◌, ◌-◌, ◌≤◌}
use lib.Dec.{ltb, eqb}
use lib.ListN.{length, take, drop, drop_of_length-le}
use Rattle.std.proofs.Common.{Option, None, Some}
use Rattle.octets.proofs.Every.{either}
use Rattle.text.specs.Texts.{same_text}
use Rattle.file_lines.specs.Lines.{line_at, line_found}
use Rattle.file_lines.specs.EncPart.{lines_of, enc_lines, is_closed}
use Rattle.file_lines.specs.Walk.{enc_from, closed_from}
use Rattle.file_lines.specs.declared.LineFound.TheVariants.{Line, Unended, End}
use Rattle.file_lines.proofs.Walks.{found_part, at_line, at_end, at_unended}
use Rattle.product_row.specs.Row.{is_row, row_of, read_row}
use Rattle.product_row.specs.declared.Row.{Row}
use Rattle.products.specs.Listing.{all_rows}
use Rattle.products.specs.Answers.{own_row, names_of}
use Rattle.products.specs.Reading.{rises_from, first_of, own_if, rows_from, is_good_from, rows_read}
use Rattle.products.specs.declared.rows.Rows.{Rows}

-- what is known of all rows when those before a place have been read
pub record Passing (list : List ℕ) (first name at last : ℕ) (rising : Bool) (own : Option Row) : Type 0 where
  pub good : is_good_from list first ≡ is_good_from list at
  pub found : own_row name (rows_from list first) ≡ first_of own (own_row name (rows_from list at))
  pub rises : rises_from 0 (names_of (rows_from list first)) ≡ (rising && rises_from last (names_of (rows_from list at)))

pub start : (list : List ℕ) (first name : ℕ) → Passing list first name first 0 true None
start list first name = record { good = refl; found = refl; rises = refl }

first_assoc : (a b c : Option Row) → first_of a (first_of b c) ≡ first_of (first_of a b) c
first_assoc (Some r) b c = refl
first_assoc None b c = refl

first_none : (a : Option Row) → first_of a None ≡ a
first_none (Some r) = refl
first_none None = refl

own_first : (name : ℕ) (r : Row) (rows : List Row) → own_row name (r ∷ rows) ≡ first_of (own_if name r) (own_row name rows)
unfolding own_row
own_first name r rows = either (eqb r.name name) (λ same. rw same) (λ other. rw other)

-- what a line that was read says
pub cell_read : (line : List ℕ) (r : Row) → Some r ≡ read_row line → (is_row line ≡ true) × (row_of line ≡ r)
unfolding read_row
cell_read line r made =
    either (is_row line)
    (λ good. let there = rw good at made in (good, cc))
    (λ bad. let none = rw bad at made in cc)

pub wrong_read : (line : List ℕ) → None ≡ read_row line → is_row line ≡ false
unfolding read_row
wrong_read line made = either (is_row line) (λ good. let there = rw good at made in cc) (λ bad. bad)

module _ {list : List ℕ} {first name at last : ℕ} {rising : Bool} {own : Option Row} (known : Passing list first name at last rising own) where
  abbrev all : Option Rows
  all = Some (record { own = own; rising = rising })

  module _ (closed : closed_from list at ≡ true) (none : enc_from list at ≡ []) where
    at-close : rows_read list first name ≡ all
    unfolding rows_read is_good_from all_rows own_row rises_from
    at-close =
        rw (known.good, known.found, known.rises, closed, none, first_none, and-true)

  pub ended : line_found list at ≡ End → rows_read list first name ≡ all
  ended made = let e = at_end list at made in at-close e.1 e.0

  pub ran_out : length list ≤ at → rows_read list first name ≡ all
  unfolding lines_of enc_lines is_closed same_text
  ran_out h = at-close (rw (drop_of_length-le list h)) (rw (drop_of_length-le list h))

  pub not_ended : at ≤ length list → line_found list at ≡ Unended → rows_read list first name ≡ None
  unfolding rows_read is_good_from
  not_ended h made = let e = at_unended list at h made in rw (known.good, e.1)

  module _ (end : ℕ) (made : line_found list at ≡ Line end) where
    pub bad-row : None ≡ read_row (take (end - at) (drop at list)) → rows_read list first name ≡ None
    unfolding rows_read is_good_from all_rows
    bad-row wrong =
        let bad : is_row (line_at list at) ≡ false = wrong_read (line_at list at) (rw (found_part list at end made) at wrong) in
        rw (known.good, (at_line list at end made).0, bad, and-false)

    good_next : is_row (line_at list at) ≡ true → is_good_from list at ≡ is_good_from list (end + 2)
    unfolding is_good_from all_rows
    good_next good = rw ((at_line list at end made).0, (at_line list at end made).1, good)

    Rises-next
        : (r : Row) → rows_from list at ≡ r ∷ rows_from list (end + 2)
        → rises_from last (names_of (rows_from list at)) ≡ (ltb last r.name && rises_from r.name (names_of (rows_from list (end + 2))))
    unfolding rises_from
    Rises-next r rows = rw rows

    pub next : (r : Row) → Some r ≡ read_row (take (end - at) (drop at list))
        → Passing list first name (end + 2) r.name (rising && ltb last r.name) (first_of own (own_if name r))
    next r read =
        let line = cell_read (line_at list at) r (rw (found_part list at end made) at read) in
        let rows : rows_from list at ≡ r ∷ rows_from list (end + 2) = rw ((at_line list at end made).0, line.1) in
        record {
          good = known.good ∙ good_next line.0;
          found = known.found ∙ ap (first_of own) (ap (own_row name) rows ∙ own_first name r (rows_from list (end + 2))) ∙ first_assoc own (own_if name r) (own_row name (rows_from list (end + 2)));
          rises = known.rises ∙ ap (λ (b : Bool). rising && b) (Rises-next r rows) ∙ sym (and_assoc rising (ltb last r.name) (rises_from r.name (names_of (rows_from list (end + 2)))));
        }
