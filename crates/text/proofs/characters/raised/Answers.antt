-- `text::characters::raised` meets its contract: a letter that is raised is at least 97. Assumes nothing.
use Rattle.std.proofs.Common.{sym, ◌∙◌, arith}
use Rattle.text.specs.Characters.{raised}
use Rattle.text.proofs.Notations.{between_low}
use Rattle.text.proofs.characters.raised.Goals as goal

pub overflow_sub-result : goal.overflow_sub-result
overflow_sub-result c = omega (arith, between_low 97 122 c.args.c (sym c.within.ensures ∙ c.if-within.true))

pub returns-then-within : goal.returns-then-within
unfolding raised
returns-then-within c = rw (sym c.within.ensures ∙ c.if-within.true)

pub returns-else-within : goal.returns-else-within
unfolding raised
returns-else-within c = rw (sym c.within.ensures ∙ c.if-within.false)
