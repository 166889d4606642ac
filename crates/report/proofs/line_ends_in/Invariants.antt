-- `report::line_ends_in` meets its contract. The invariant: what is counted and what is left are all of them.
-- Assumes nothing.
use Rattle.std.proofs.Common.{◌≡◌, ◌+◌, ◌-◌, drop}
use Rattle.report.specs.LookThrough.{line_ends_in}
use Rattle.report.proofs.line_ends_in.Given as goal

abbrev pub invariant-loop-i : goal.invariant-loop-i
invariant-loop-i l = l.n + line_ends_in (drop (l.i - 1) l.input) ≡ line_ends_in l.input
