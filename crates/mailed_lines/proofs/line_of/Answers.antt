-- `mailed_lines::line_of` meets its contract: the last byte says whether one is taken off.
-- Assumes nothing.
use Rattle.std.proofs.Common.{rules, refl}
use Rattle.mailed_lines.proofs.Lengths.{no_line, line-less, line-all}
use Rattle.mailed_lines.proofs.line_of.Goals as goal

pub returns-in-13 : goal.returns-in-13
returns-in-13 c = (line-less c.args.text.now c.in-13.len_at_least (search rules), refl)

pub returns-then-text-lt1 : goal.returns-then-text-lt1
returns-then-text-lt1 c = (no_line c.args.text.now (search rules), refl)

pub returns-else-text-lt1 : goal.returns-else-text-lt1
returns-else-text-lt1 c = (line-all c.args.text.now (search rules), refl)
