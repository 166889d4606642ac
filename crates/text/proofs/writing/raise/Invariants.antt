-- `text::writing::raise` meets its contract. The loop's invariant: of the bytes so many are raised. Assumes nothing.
use Rattle.text.proofs.PutTexts.{RaisedTo}
use Rattle.text.proofs.writing.raise.Given as goal

abbrev pub invariant-loop-c : goal.invariant-loop-c
invariant-loop-c l = RaisedTo l.initial.text l.text l.c-index
