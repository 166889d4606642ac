-- `carrying::put_records` meets its contract. The invariant: the records before i are put.
-- Assumes nothing.
use mathlib.Core.Path.{◌≡◌, ap, ◌∙◌}
use mathlib.Core.List.{List, ◌++◌}
use Prim.Native.Nat.{ℕ, ◌+◌, ◌-◌, ◌≤◌, ◌<◌}
use native.Mathlib.Omega.{arith}
use lib.ListN.{length}
use Rattle.octets.specs.Numbers.{Below}
use Rattle.octets.proofs.Places.{part_length}
use Rattle.text.specs.Texts.{part, placed}
use Rattle.layout.specs.Layout.{one, record_size_by, record_count_by, record_place_by, record_place, zeros}
use Rattle.judging.proofs.Parts.{part_lent_lem}
use Rattle.judging.proofs.Forms.{Formed, form_facts}
use Rattle.carrying.proofs.Puts.{records_none, records_next, records_all}
use Rattle.carrying.proofs.put_records.Goals as goal
use Rattle.carrying.proofs.put_records.Goals.{After-old_count-i-end, In-loop-i, Start}

-- the version 1 book, which has its form
module _ (c : After-old_count-i-end) where
  abbrev start : Start
  start = (goal.at.After-old_count-i-end c).Start

  abbrev book : List ℕ
  book = start.args.book.now

  formed : Formed one book
  formed = form_facts one book start.requires.0

  below : Below 256 book
  below k = omega (arith, c.type_inv.book k)

pub loop-i-init : goal.loop-i-init
loop-i-init c = records_none (book (goal.at.loop-i-init c).After-old_count-i-end) (below (goal.at.loop-i-init c).After-old_count-i-end) (formed (goal.at.loop-i-init c).After-old_count-i-end) (start (goal.at.loop-i-init c).After-old_count-i-end).requires.1

-- record i is there, and it is copied whole
module _ (c : In-loop-i) where
  abbrev counted : After-old_count-i-end
  counted = (goal.at.In-loop-i c).After-old_count-i-end

  abbrev i : ℕ
  i = c.loop-i.i

  more : i < record_count_by one (book counted)
  more = omega (arith, counted.old_count-i-end.ensures, c.loop-i-test.true)

  inside : record_place_by one i + record_size_by one ≤ length (book counted)
  inside = omega (arith, more, (formed counted).size, (formed counted).few)

  lent : part (record_place_by one i + record_size_by one - record_place_by one i) (book counted) (record_place_by one i)
      ≡ part (record_size_by one) (book counted) (record_place_by one i)
  lent = part_lent_lem (record_size_by one) (book counted) (record_place_by one i)

pub slice_bounds-put_record-end : goal.slice_bounds-put_record-end
slice_bounds-put_record-end c = omega (arith, inside (goal.at.slice_bounds-put_record-end c).In-loop-i)

pub put_record-requires : goal.put_record-requires
put_record-requires c =
    let turn = (goal.at.put_record-requires c).In-loop-i in (
      ap length (lent turn) ∙ part_length (record_size_by one) (book (counted turn)) (record_place_by one (i turn)) (inside turn),
      omega (arith, more turn, (formed (counted turn)).few, c.loop-i.invariant.put.same, (start (counted turn)).requires.1),
    )

pub loop-i-preserved : goal.loop-i-preserved
loop-i-preserved c =
    let turn = (goal.at.loop-i-preserved c).In-loop-i in
    records_next (book (counted turn)) (below (counted turn)) (formed (counted turn)) c.loop-i.invariant (more turn) _
    (c.put_record.ensures ∙ ap (λ (l : List ℕ). placed (record_place (i turn)) (l ++ zeros 4) c.loop-i.new) (lent turn))

pub shape_of-new : goal.shape_of-new
shape_of-new c = c.loop-i.invariant.put.same

pub returns : goal.returns
returns c =
    let counted = (goal.at.returns c).After-old_count-i-end in
    records_all (book counted) (below counted) (formed counted) c.loop-i.invariant (omega (arith, c.old_count-i-end.ensures, c.loop-i-test.false))
