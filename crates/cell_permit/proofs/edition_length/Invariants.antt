-- `cell_permit::edition_length`: n digits are counted, and those after them are to be.
use Rattle.std.proofs.Common.{◌≡◌, ◌+◌, ◌-◌, drop}
use Rattle.cell_permit.specs.Line.{leading_digits, edition_length}
use Rattle.cell_permit.proofs.edition_length.Given as goal

abbrev pub invariant-loop-n : goal.invariant-loop-n
invariant-loop-n l = edition_length l.line ≡ l.n + leading_digits (3 - l.n) (drop (67 + l.n) l.line)
