-- `cell_file::gathered` meets its contract. The invariant: the first i bytes of s have been gathered after those of x, and these are fewer than eight.
use Rattle.cell_file.proofs.Gathering.{Gathered}
use Rattle.cell_file.proofs.gathered.Given as goal

abbrev pub invariant-loop-b : goal.invariant-loop-b
invariant-loop-b l = Gathered l.x l.s l.b-index l.gathered
