-- `report::start::days_of` meets its contract: so few digits are a small number.
-- Assumes nothing.
use Rattle.std.proofs.Common.{sym, arith}
use Rattle.report.proofs.Starts.{number_below}
use Rattle.report.proofs.start.days_of.Goals as goal

pub overflow_cast-result : goal.overflow_cast-result
overflow_cast-result c = omega (arith, number_below c.args.input.now 2 15 c.in-Some.x (sym c.in-Some.ensures))
