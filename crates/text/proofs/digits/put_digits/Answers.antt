-- `text::digits::put_digits` meets its contract. The loop's invariant: of the digits all but the i highest are there. Assumes nothing.
use Rattle.std.proofs.Common.{ap, ◌∙◌, arith}
use native.Mathlib.Nat.{mod-mod}
use Rattle.text.specs.Bases.{base_of, character_in}
use Rattle.text.proofs.LowDigits.{none_yet, one_more, all_there}
use Rattle.text.proofs.digits.put_digits.Goals as goal

pub loop-i-init : goal.loop-i-init
loop-i-init c = none_yet (base_of c.args.base) (character_in c.args.base) c.args.x c.args.out.now

pub loop-i-preserved : goal.loop-i-preserved
loop-i-preserved c =
    rw c.number-b.ensures
    (one_more (base_of c.args.base) (character_in c.args.base) _ _ _ _ _ _
    (rw c.number-b.ensures at c.character.ensures ∙ ap (character_in c.args.base) (mod-mod c.loop-i.rest (base_of c.args.base)))
    c.loop-i-test.true
    (omega (arith, c.loop-i.auto.out, c.loop-i.auto.i))
    c.loop-i.invariant)

pub returns : goal.returns
returns c = all_there (base_of c.args.base) (character_in c.args.base) _ _ _ _ _ (omega (arith, c.loop-i-test.false)) c.loop-i.invariant
