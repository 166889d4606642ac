-- `line_shape::is_date_of` meets its contract.
-- Assumes nothing.
use Rattle.std.proofs.Common.{sym, ap, ◌∙◌, arith}
use Rattle.dates.specs.Calendar.{is_date}
use Rattle.line_shape.proofs.Dates.{zeros_fit, pairs_fit, number_is, early_date}
use Rattle.line_shape.proofs.is_date_of.Goals as goal

pub overflow_sub-digits : goal.overflow_sub-digits
overflow_sub-digits c = zeros_fit c.args.x (omega arith) c.requires

pub overflow_mul-pairs : goal.overflow_mul-pairs
overflow_mul-pairs c = omega (arith, pairs_fit c.args.x (omega arith) c.requires)

pub overflow_add-pairs : goal.overflow_add-pairs
overflow_add-pairs c = omega (arith, pairs_fit c.args.x (omega arith) c.requires)

pub returns-then-is_early : goal.returns-then-is_early
returns-then-is_early c =
    early_date c.args.x (omega arith) c.requires (sym c.is_early.ensures ∙ c.if-is_early.true)

pub returns : goal.returns
returns c =
    c.is_date.ensures ∙ ap is_date (sym (number_is c.args.x (omega arith) c.requires))
