-- `carrying::put_book` meets its contract: the version, the used length, the settings and the records, one after the other.
-- Assumes nothing.
use mathlib.Core.Path.{ap, ◌∙◌}
use mathlib.Core.List.{List}
use Prim.Native.Nat.{ℕ}
use native.Mathlib.Omega.{arith}
use lib.ListN.{length, length-replicate}
use Rattle.octets.specs.Numbers.{Below, bytes_of}
use Rattle.text.specs.Texts.{placed}
use Rattle.text.proofs.PlacedTexts.{length-placed}
use Rattle.layout.specs.Layout.{one, book_size, used_length}
use Rattle.judging.proofs.Forms.{Formed, form_facts}
use Rattle.carrying.proofs.Puts.{wider_put}
use Rattle.carrying.proofs.put_book.Goals as goal
use Rattle.carrying.proofs.put_book.Goals.{After-old_count, Start}

-- the version 1 book, which has its form
module _ (c : After-old_count) where
  abbrev start : Start
  start = (goal.at.After-old_count c).Start

  abbrev book : List ℕ
  book = start.args.book.now

  formed : Formed one book
  formed = form_facts one book start.requires.0

  below : Below 256 book
  below k = omega (arith, c.type_inv.book k)

pub overflow_mul-old_count : goal.overflow_mul-old_count
overflow_mul-old_count c = omega (arith, c.old_count.ensures, (formed (goal.at.overflow_mul-old_count c).After-old_count).few)

pub overflow_add-old_count : goal.overflow_add-old_count
overflow_add-old_count c = omega (arith, c.old_count.ensures, (formed (goal.at.overflow_add-old_count c).After-old_count).few)

pub overflow_cast-old_count : goal.overflow_cast-old_count
overflow_cast-old_count c = omega (arith, c.old_count.ensures, (formed (goal.at.overflow_cast-old_count c).After-old_count).few)

pub slice_bounds-put_text-end-3 : goal.slice_bounds-put_text-end-3
slice_bounds-put_text-end-3 c = omega (arith, (formed (goal.at.slice_bounds-put_text-end-3 c).After-old_count).size)

pub put_records-requires : goal.put_records-requires
put_records-requires c =
    let counted = (goal.at.put_records-requires c).After-old_count in (
      (start counted).requires.0,
      ap length c.put_text-3.ensures ∙ length-placed _ _ _
          ∙ ap length c.put_text-2.ensures ∙ length-placed _ _ _
          ∙ ap length c.put_text.ensures ∙ length-placed _ _ _
          ∙ ap length (start counted).requires.1 ∙ length-replicate {A = ℕ} book_size 0,
    )

pub returns : goal.returns
returns c =
    let counted = (goal.at.returns c).After-old_count in
    wider_put (book counted) (below counted) (formed counted)
    (start counted).args.new.now c.put_text.new.out c.put_text-2.new.out c.put_text-3.new.out _
    (start counted).requires.1
    c.put_text.ensures
    (c.put_text-2.ensures
    ∙ ap (λ (t : List ℕ). placed 1 t c.put_text.new.out)
    (c.bytes32-used.ensures ∙ ap (λ (n : ℕ). bytes_of 4 (used_length n)) c.old_count.ensures))
    c.put_text-3.ensures
    c.put_records.ensures
