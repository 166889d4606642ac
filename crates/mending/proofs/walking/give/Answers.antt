-- `mending::walking::give` meets its contract, by whether LF ends the text.
-- Assumes nothing.
use Prim.Native.Nat.{◌≤◌, ◌<◌}
use native.Mathlib.Omega.{arith}
use borrow.Author.Rules.{rules}
use lib.ListN.{length}
use Rattle.mailed_lines.proofs.CutTexts.{text_begins, text_ends_within}
use Rattle.mending.proofs.TextGives.{unended_part, ended_part, same_given}
use Rattle.mending.proofs.walking.give.Goals as goal
use Rattle.mending.proofs.walking.give.Goals.{Else-end-file}

-- what LF ends
bounds : (c : Else-end-file) → (c.args.place ≤ c.args.end) × (c.args.end < length c.args.file.now)
bounds c =
    let file = c.args.file.now in
    let place = c.args.place in (
      omega (arith, c.requires.place_in_bounds.1, text_begins file place),
      omega (arith, c.requires.place_in_bounds.1, text_ends_within file place c.requires.place_in_bounds.0, c.if-end-file.false),
    )

pub returns-then-end-file : goal.returns-then-end-file
returns-then-end-file c =
    let args = c.args in
    same_given _ _ (unended_part args.file.now args.place args.end args.count c.requires.place_in_bounds.0 c.requires.place_in_bounds.1 c.if-end-file.true)
    args.at args.out.now args.list.now c.put_unended.result
    c.put_unended.new.out c.put_unended.new.list c.put_unended.ensures

pub slice_bounds-put_ended-count : goal.slice_bounds-put_ended-count
slice_bounds-put_ended-count c =
    let h = bounds (goal.at.slice_bounds-put_ended-count c).Else-end-file in
    search rules

pub slice_bounds-put_ended-start : goal.slice_bounds-put_ended-start
slice_bounds-put_ended-start c =
    let h = bounds (goal.at.slice_bounds-put_ended-start c).Else-end-file in
    search rules

pub slice_bounds-put_ended-end : goal.slice_bounds-put_ended-end
slice_bounds-put_ended-end c =
    let h = bounds (goal.at.slice_bounds-put_ended-end c).Else-end-file in
    search rules

pub overflow_add-end : goal.overflow_add-end
overflow_add-end c =
    let h = bounds (goal.at.overflow_add-end c).Else-end-file in
    search rules

pub slice_bounds-put_ended-count-2 : goal.slice_bounds-put_ended-count-2
slice_bounds-put_ended-count-2 c =
    let h = bounds (goal.at.slice_bounds-put_ended-count-2 c).Else-end-file in
    search rules

pub slice_bounds-put_ended-start-2 : goal.slice_bounds-put_ended-start-2
slice_bounds-put_ended-start-2 c =
    let h = bounds (goal.at.slice_bounds-put_ended-start-2 c).Else-end-file in
    search rules

pub returns : goal.returns
returns c =
    let ended = (goal.at.returns c).Else-end-file in
    let args = c.args in
    same_given _ _ (ended_part args.file.now args.place args.end args.count c.requires.place_in_bounds.0 c.requires.place_in_bounds.1 (bounds ended).1)
    args.at args.out.now args.list.now c.put_ended.result
    c.put_ended.new.out c.put_ended.new.list c.put_ended.ensures
