-- `mailed_lines::saying::length_if` meets its contract.
-- Assumes nothing.
use Rattle.std.proofs.Common.{arith}
use Rattle.mailed_lines.proofs.PutLines.{width_short}
use Rattle.mailed_lines.proofs.saying.length_if.Goals as goal

pub overflow_add-result : goal.overflow_add-result
overflow_add-result c = record { fits = omega (arith, width_short c.args.count.number (omega arith), c.args.count.counted) }
