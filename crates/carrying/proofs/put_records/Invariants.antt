-- `carrying::put_records` meets its contract. The invariant: the records before i are put.
-- Assumes nothing.
use Rattle.carrying.proofs.Puts.{RecordsPut}
use Rattle.carrying.proofs.put_records.Given as goal

abbrev pub invariant-loop-i : goal.invariant-loop-i
invariant-loop-i l = RecordsPut l.book l.initial.new l.new l.i
