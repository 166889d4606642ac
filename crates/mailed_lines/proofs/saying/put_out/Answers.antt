-- `mailed_lines::saying::put_out` meets its contract: its three parts, where they lie within.
-- Assumes nothing.
use mathlib.Core.Path.{sym, ◌∙◌}
use Prim.Native.Nat.{◌+◌, ◌≤◌}
use native.Mathlib.Omega.{arith}
use lib.ListN.{length}
use borrow.Author.Tests.{leb-true}
use Rattle.mailed_lines.proofs.PutLines.{width_short, not-put, out_size, out_put}
use Rattle.mailed_lines.proofs.saying.put_out.Goals as goal
use Rattle.mailed_lines.proofs.saying.put_out.Goals.{Then-lies_within}

-- they lie within
inside : (fits : Then-lies_within)
    → let args = fits.args in
    args.at + (fits.width-start.result + 5 + length args.line.now + 1) ≤ length args.list.now
inside fits = leb-true _ _ (sym fits.lies_within.ensures ∙ fits.if-lies_within.true)

pub overflow_add-start : goal.overflow_add-start
overflow_add-start c =
    let w = width_short c.args.count c.ranges.count.fits in
    let e = c.width-start.ensures in
    record { fits = omega (arith, w, e) }

pub overflow_add-size : goal.overflow_add-size
overflow_add-size c =
    let w = width_short c.args.count c.ranges.count.fits in
    let e = c.width-start.ensures in
    record { fits = omega (arith, w, e, c.well_formed.1.1.1.0) }

pub overflow_add-size-2 : goal.overflow_add-size-2
overflow_add-size-2 c =
    let w = width_short c.args.count c.ranges.count.fits in
    let e = c.width-start.ensures in
    record { fits = omega (arith, w, e, c.well_formed.1.1.1.0) }

pub overflow_add-at : goal.overflow_add-at
overflow_add-at c =
    let fits = (goal.at.overflow_add-at c).Then-lies_within in
    record { fits = omega (arith, inside fits, c.well_formed.0) }

pub overflow_add-at-then-lies_within : goal.overflow_add-at-then-lies_within
overflow_add-at-then-lies_within c =
    let fits = (goal.at.overflow_add-at-then-lies_within c).Then-lies_within in
    record { fits = omega (arith, inside fits, c.well_formed.0) }

pub overflow_add-at-then-lies_within-2 : goal.overflow_add-at-then-lies_within-2
overflow_add-at-then-lies_within-2 c =
    let fits = (goal.at.overflow_add-at-then-lies_within-2 c).Then-lies_within in
    record { fits = omega (arith, inside fits, c.well_formed.0) }

pub returns-then-lies_within : goal.returns-then-lies_within
returns-then-lies_within c =
    let args = c.args in (
      out_size args.at args.count c.width-start.result args.line.now args.list.now c.width-start.ensures,
      out_put args.at args.count c.width-start.result args.line.now args.list.now c.width-start.ensures
          (sym c.lies_within.ensures ∙ c.if-lies_within.true)
          c.put_counted.new.list c.put_text.new.out c.put_text-then-lies_within.new.out
          c.put_counted.ensures.1 c.put_text.ensures c.put_text-then-lies_within.ensures,
    )

pub returns-else-lies_within : goal.returns-else-lies_within
returns-else-lies_within c =
    let args = c.args in
    let size = out_size args.at args.count c.width-start.result args.line.now args.list.now c.width-start.ensures in
    (size, not-put args.at _ _ args.list.now size (sym c.lies_within.ensures ∙ c.if-lies_within.false))
