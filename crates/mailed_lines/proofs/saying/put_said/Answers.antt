-- `mailed_lines::saying::put_said` meets its contract: the count and what follows it, where they lie within.
-- Assumes nothing.
use Rattle.std.proofs.Common.{sym, ◌∙◌, arith, leb-true}
use Rattle.mailed_lines.proofs.PutLines.{width_short, not-put, counted_size, counted-put}
use Rattle.mailed_lines.proofs.saying.put_said.Goals as goal

pub overflow_add-size : goal.overflow_add-size
overflow_add-size c =
    let count = c.args.count in
    record { fits = omega (arith, width_short count.number (omega arith), count.counted, c.well_formed.1.1.1.0) }

pub overflow_add-at : goal.overflow_add-at
overflow_add-at c =
    record { fits = omega (arith, leb-true _ _ (sym c.lies_within.ensures ∙ c.if-lies_within.true), c.well_formed.0) }

pub returns-then-lies_within : goal.returns-then-lies_within
returns-then-lies_within c =
    let args = c.args in (
      counted_size args.at args.count.digits args.count.number args.rest.now args.list.now args.count.counted,
      counted-put args.at args.count.digits args.count.number args.rest.now args.list.now args.count.counted
          (sym c.lies_within.ensures ∙ c.if-lies_within.true)
          c.put_decimal.new.out c.put_text.new.out c.put_decimal.ensures c.put_text.ensures,
    )

pub returns-else-lies_within : goal.returns-else-lies_within
returns-else-lies_within c =
    let args = c.args in
    let size = counted_size args.at args.count.digits args.count.number args.rest.now args.list.now args.count.counted in
    (size, not-put args.at _ _ args.list.now size (sym c.lies_within.ensures ∙ c.if-lies_within.false))
