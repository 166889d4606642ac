-- `report::rows::list_lines` meets its contract. The loop's invariant: the answers that are listed and those that are left are all answers.
-- The measure is what is left of the file. Assumes nothing.
use Prim.Native.Nat.{◌-◌}
use lib.ListN.{length}
use Rattle.cell_permit.specs.Line.{read_with}
use Rattle.report.proofs.Listing.{Going}
use Rattle.report.proofs.rows.list_lines.Given as goal

abbrev pub invariant-loop-t : goal.invariant-loop-t
invariant-loop-t l = Going (read_with l.words l.today l.days) l.file l.initial.out l.t l.out

abbrev pub decreases-loop-t : goal.decreases-loop-t
decreases-loop-t l = length l.file - l.t.place
