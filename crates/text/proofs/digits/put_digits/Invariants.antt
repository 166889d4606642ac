-- `text::digits::put_digits` meets its contract. The loop's invariant: of the digits all but the i highest are there. Assumes nothing.
use Rattle.std.proofs.Common.{length}
use Rattle.text.specs.Bases.{base_of, character_in}
use Rattle.text.proofs.LowDigits.{Left}
use Rattle.text.proofs.digits.put_digits.Given as goal

abbrev pub invariant-loop-i : goal.invariant-loop-i
invariant-loop-i l = Left (base_of l.base) (character_in l.base) (length l.initial.out) l.x l.out l.rest l.i
