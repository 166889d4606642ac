-- `text::digits::number_in` meets its contract. The loop's invariant: x is the number of the characters read. Assumes nothing.
use Rattle.text.proofs.NumbersIn.{ReadOf}
use Rattle.text.proofs.digits.number_in.Given as goal

abbrev pub invariant-loop-c : goal.invariant-loop-c
invariant-loop-c l = ReadOf l.base l.text l.c-index l.x
