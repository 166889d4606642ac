-- `text::characters::letter_value` meets its contract: a small letter is at least 97. Assumes nothing.
use Rattle.std.proofs.Common.{sym, ◌∙◌, arith}
use Rattle.text.proofs.Notations.{between_low, between_high}
use Rattle.text.proofs.characters.letter_value.Goals as goal

pub overflow_sub-result : goal.overflow_sub-result
overflow_sub-result c = omega (arith, between_low 97 102 c.args.c (sym c.within.ensures ∙ c.if-within.true))

pub overflow_add-result : goal.overflow_add-result
overflow_add-result c = omega (arith, between_high 97 102 c.args.c (sym c.within.ensures ∙ c.if-within.true))

pub returns-then-within : goal.returns-then-within
returns-then-within c = rw (sym c.within.ensures ∙ c.if-within.true)

pub returns-else-within : goal.returns-else-within
returns-else-within c = rw (sym c.within.ensures ∙ c.if-within.false)
