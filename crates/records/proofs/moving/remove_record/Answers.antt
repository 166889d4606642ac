-- `records::moving::remove_record` meets its contract: the gap is closed, and the used length written; or nothing.
-- Assumes nothing.
use mathlib.Core.List.{List}
use mathlib.Core.Path.{◌≡◌}
use Prim.Native.Nat.{ℕ, ◌+◌, ◌≤◌}
use native.Mathlib.Omega.{arith}
use borrow.Author.Rules.{rules}
use lib.ListN.{length, length-take, length-drop}
use Rattle.octets.specs.Numbers.{Below}
use Rattle.layout.specs.Layout.{record_count, record_size, used_length, record_place}
use Rattle.records.proofs.Searching.{count_most}
use Rattle.records.proofs.Guarded.{taken_out, none_there, not_within}
use Rattle.records.proofs.moving.remove_record.Goals as goal
use Rattle.records.proofs.moving.remove_record.Goals.{Then-used-book, else-i-n-via-then-i-n+else-used-book, else-i-n-via-else-i-n}

-- so many records at most are told
few : (s : List ℕ) (n : ℕ) → Below 256 s → n ≡ record_count s → n ≤ 178956966
few s n below told = omega (arith, told, count_most s below)

pub overflow_mul-used : goal.overflow_mul-used
overflow_mul-used c = omega (arith, few _ _ (λ j. search rules) c.count-n.ensures)

pub overflow_add-used : goal.overflow_add-used
overflow_add-used c = omega (arith, few _ _ (λ j. search rules) c.count-n.ensures)

-- the records lie within the book, and this one is among them
module _ (c : Then-used-book) where
  within : used_length c.count-n.result ≤ length c.args.book.now
  within = c.if-used-book.true

  inside : record_place c.args.i + record_size ≤ used_length c.count-n.result
  inside = omega (arith, c.if-i-n.true)

pub slice_bounds-close_gap-count : goal.slice_bounds-close_gap-count
slice_bounds-close_gap-count c = omega (arith, within (goal.at.slice_bounds-close_gap-count c).Then-used-book, inside (goal.at.slice_bounds-close_gap-count c).Then-used-book)

pub slice_bounds-close_gap-start : goal.slice_bounds-close_gap-start
slice_bounds-close_gap-start c = omega (arith, within (goal.at.slice_bounds-close_gap-start c).Then-used-book, inside (goal.at.slice_bounds-close_gap-start c).Then-used-book)

pub overflow_sub-used-then-used-book : goal.overflow_sub-used-then-used-book
overflow_sub-used-then-used-book c = omega (arith, inside (goal.at.overflow_sub-used-then-used-book c).Then-used-book)

pub close_gap-requires : goal.close_gap-requires
close_gap-requires c = simp (length-take, length-drop) (omega (arith, within (goal.at.close_gap-requires c).Then-used-book, inside (goal.at.close_gap-requires c).Then-used-book))

pub returns-then-used-book : goal.returns-then-used-book
returns-then-used-book c =
    let start = c.args in
    taken_out start.book.now _ start.i c.count-n.ensures c.if-i-n.true (c.if-used-book.true)
    c.close_gap.new.part _ c.close_gap.ensures c.put_used.ensures

pub returns-else-i-n : goal.returns-else-i-n
returns-else-i-n c =
    let start = c.args in
    elim c.else-i-n.branch [
      | else-i-n-via-then-i-n+else-used-book w ↦ not_within start.book.now _ start.i c.count-n.ensures w.if-used-book.false w.if-i-n.true
      | else-i-n-via-else-i-n w ↦ none_there start.book.now _ start.i c.count-n.ensures w.if-i-n.false
    ]
