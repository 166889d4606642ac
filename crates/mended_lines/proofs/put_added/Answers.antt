-- `mended_lines::put_added` meets its contract: the line that is left out, if there is one, and :ECS.
-- Assumes nothing.
use mathlib.Core.Path.{◌≡◌}
use mathlib.Core.List.{List, ◌++◌}
use Prim.Native.Nat.{ℕ, ◌+◌}
use native.Mathlib.Omega.{arith}
use lib.ListN.{length}
use Rattle.text.specs.Ascii.{ascii}
use Rattle.text.specs.Texts.{numeral}
use Rattle.mailed_lines.specs.Saying.{out_said}
use Rattle.mailed_lines.proofs.PutLines.{width_short}
use Rattle.mended_lines.specs.Giving.{added_said}
use Rattle.mended_lines.proofs.TwoParts.{same_put, both-fit, both-put, none_put}
use Rattle.mended_lines.proofs.LineGives.{none_said, some_said, added_sizes}
use Rattle.mended_lines.proofs.put_added.Goals as goal
use Rattle.mended_lines.proofs.put_added.Goals.{After-lies_within}

-- both list lines, as they were measured
module _ (within : After-lies_within) where
  abbrev first : List ℕ
  first = out_said within.args.count within.args.line.now

  abbrev next : List ℕ
  next = numeral within.args.next ++ ascii " ECS\n"

  abbrev first_size : ℕ
  first_size = within.width.result + length within.args.line.now + 6

  abbrev size : ℕ
  size = first_size + within.width-2.result + 5

  measured : (first_size ≡ length first) × (size ≡ length (first ++ next))
  measured =
      added_sizes within.args.count within.args.next within.args.line.now within.width.result within.width-2.result
      within.width.ensures within.width-2.ensures

  same : added_said within.args.count within.args.next within.args.line.now ≡ first ++ next
  same = some_said within.args.count within.args.next within.args.line.now within.if-line-eq0.false

pub returns-then-line-eq0 : goal.returns-then-line-eq0
returns-then-line-eq0 c =
    let args = c.args in
    same_put _ _ (none_said args.count args.next args.line.now c.if-line-eq0.true) args.at args.list.now
    c.put_counted.result c.put_counted.new.list c.put_counted.ensures

pub overflow_add-out : goal.overflow_add-out
overflow_add-out c =
    let w = width_short c.args.count c.ranges.count.fits in
    let e = c.width.ensures in
    record { fits = omega (arith, w, e, c.well_formed.1.1.1.1.0) }

pub overflow_add-out-2 : goal.overflow_add-out-2
overflow_add-out-2 c =
    let w = width_short c.args.count c.ranges.count.fits in
    let e = c.width.ensures in
    record { fits = omega (arith, w, e, c.well_formed.1.1.1.1.0) }

pub overflow_add-size : goal.overflow_add-size
overflow_add-size c =
    let w = width_short c.args.count c.ranges.count.fits in
    let v = width_short c.args.next c.ranges.next.fits in
    record { fits = omega (arith, w, v, c.width.ensures, c.width-2.ensures, c.well_formed.1.1.1.1.0) }

pub overflow_add-size-2 : goal.overflow_add-size-2
overflow_add-size-2 c =
    let w = width_short c.args.count c.ranges.count.fits in
    let v = width_short c.args.next c.ranges.next.fits in
    record { fits = omega (arith, w, v, c.width.ensures, c.width-2.ensures, c.well_formed.1.1.1.1.0) }

pub overflow_add-at : goal.overflow_add-at
overflow_add-at c =
    let within = (goal.at.overflow_add-at c).After-lies_within in
    let args = c.args in
    let fits =
    both-fit args.at (first within) (next within) args.list.now (size within) (measured within).1
    c.lies_within.result c.lies_within.ensures c.if-lies_within.true in
    record { fits = omega (arith, fits, (measured within).0, c.well_formed.0) }

pub returns-then-lies_within : goal.returns-then-lies_within
returns-then-lies_within c =
    let within = (goal.at.returns-then-lies_within c).After-lies_within in
    let args = c.args in
    same_put _ _ (same within) args.at args.list.now (size within) c.put_counted-then-lies_within.new.list
    (both-put args.at (first within) (next within) args.list.now (size within) (measured within).1
    c.lies_within.result c.lies_within.ensures c.if-lies_within.true
    (first_size within) c.put_out.new.list c.put_counted-then-lies_within.new.list (measured within).0
    c.put_out.ensures.1 c.put_counted-then-lies_within.ensures.1)

pub returns-else-lies_within : goal.returns-else-lies_within
returns-else-lies_within c =
    let within = (goal.at.returns-else-lies_within c).After-lies_within in
    let args = c.args in
    same_put _ _ (same within) args.at args.list.now (size within) args.list.now
    (none_put args.at (first within) (next within) args.list.now (size within) (measured within).1
    c.lies_within.result c.lies_within.ensures c.if-lies_within.false)
