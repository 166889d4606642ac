-- `mended_lines::put_two` meets its contract: a text, which is as long with its letters raised, and one after it, where both lie within.
-- Assumes nothing.
use Prim.Native.Nat.{◌+◌}
use native.Mathlib.Omega.{arith}
use lib.ListN.{length}
use Rattle.mended_lines.specs.Giving.{cased}
use Rattle.mended_lines.proofs.TwoParts.{both-fit, both-put, none_put, cased-length, two_size}
use Rattle.mended_lines.proofs.put_two.Goals as goal

pub overflow_add-at : goal.overflow_add-at
overflow_add-at c =
    let args = c.args in
    omega (
      arith,
      cased-length args.raise args.text.now,
      both-fit args.at (cased args.raise args.text.now) args.after.now args.out.now (length args.text.now + length args.after.now)
          (two_size args.raise args.text.now args.after.now) c.lies_within.result c.lies_within.ensures c.if-lies_within.true,
    )

pub returns-then-lies_within : goal.returns-then-lies_within
returns-then-lies_within c =
    let args = c.args in
    both-put args.at (cased args.raise args.text.now) args.after.now args.out.now (length args.text.now + length args.after.now)
    (two_size args.raise args.text.now args.after.now) c.lies_within.result c.lies_within.ensures c.if-lies_within.true
    (length args.text.now) c.put_cased.new.out c.put_cased-then-lies_within.new.out (cased-length args.raise args.text.now)
    c.put_cased.ensures c.put_cased-then-lies_within.ensures

pub returns-else-lies_within : goal.returns-else-lies_within
returns-else-lies_within c =
    let args = c.args in
    none_put args.at (cased args.raise args.text.now) args.after.now args.out.now (length args.text.now + length args.after.now)
    (two_size args.raise args.text.now args.after.now) c.lies_within.result c.lies_within.ensures c.if-lies_within.false
