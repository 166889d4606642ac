-- `records::moving::insert_record` meets its contract: a gap, the record in it, and the used length; or nothing.
-- Assumes nothing.
use mathlib.Core.List.{List}
use mathlib.Core.Path.{◌≡◌}
use Prim.Native.Nat.{ℕ, ◌+◌, ◌≤◌}
use native.Mathlib.Omega.{arith}
use borrow.Author.Rules.{rules}
use lib.ListN.{length, length-take, length-drop}
use Rattle.tenants.specs.Together.{in_book}
use Rattle.octets.specs.Numbers.{Below}
use Rattle.layout.specs.Layout.{record_count, record_size, used_length, record_place}
use Rattle.records.proofs.Searching.{count_most}
use Rattle.records.proofs.Guarded.{put_in, put-too-far, no_room}
use Rattle.records.proofs.moving.insert_record.Goals as goal
use Rattle.records.proofs.moving.insert_record.Goals.{Then-used-book, else-i-n-via-then-i-n+else-used-book, else-i-n-via-else-i-n}

-- so many records at most are told
few : (s : List ℕ) (n : ℕ) → Below 256 s → n ≡ record_count s → n ≤ 178956966
few s n below told = omega (arith, told, count_most s below)

pub overflow_mul-used : goal.overflow_mul-used
overflow_mul-used c = omega (arith, few _ _ (λ j. search rules) c.count-n.ensures)

pub overflow_add-used : goal.overflow_add-used
overflow_add-used c = omega (arith, few _ _ (λ j. search rules) c.count-n.ensures)

pub overflow_add-used-then-i-n : goal.overflow_add-used-then-i-n
overflow_add-used-then-i-n c = omega (arith, few _ _ (λ j. search rules) c.count-n.ensures)

-- there is room for one record more, and the place is no further than those there are
module _ (c : Then-used-book) where
  room : used_length c.count-n.result + record_size ≤ length c.args.book.now
  room = c.if-used-book.true

  inside : record_place c.args.i ≤ used_length c.count-n.result
  inside = omega (arith, c.if-i-n.true)

pub slice_bounds-open_gap-count : goal.slice_bounds-open_gap-count
slice_bounds-open_gap-count c = omega (arith, room (goal.at.slice_bounds-open_gap-count c).Then-used-book, inside (goal.at.slice_bounds-open_gap-count c).Then-used-book)

pub slice_bounds-open_gap-start : goal.slice_bounds-open_gap-start
slice_bounds-open_gap-start c = omega (arith, room (goal.at.slice_bounds-open_gap-start c).Then-used-book, inside (goal.at.slice_bounds-open_gap-start c).Then-used-book)

pub overflow_sub-used : goal.overflow_sub-used
overflow_sub-used c = inside (goal.at.overflow_sub-used c).Then-used-book

pub open_gap-requires : goal.open_gap-requires
open_gap-requires c = simp (length-take, length-drop) (omega (arith, room (goal.at.open_gap-requires c).Then-used-book, inside (goal.at.open_gap-requires c).Then-used-book))

pub returns-then-used-book : goal.returns-then-used-book
returns-then-used-book c =
    let start = c.args in
    put_in start.book.now _ start.i c.count-n.ensures (in_book start.tenant start.cell)
    c.if-i-n.true (c.if-used-book.true) c.open_gap.new.part c.put_record.new.book _
    c.open_gap.ensures c.put_record.ensures c.put_used.ensures

pub returns-else-i-n : goal.returns-else-i-n
returns-else-i-n c =
    let start = c.args in
    elim c.else-i-n.branch [
      | else-i-n-via-then-i-n+else-used-book w ↦ no_room start.book.now _ start.i c.count-n.ensures (in_book start.tenant start.cell) w.if-used-book.false w.if-i-n.true
      | else-i-n-via-else-i-n w ↦ put-too-far start.book.now _ start.i c.count-n.ensures (in_book start.tenant start.cell) w.if-i-n.false
    ]
