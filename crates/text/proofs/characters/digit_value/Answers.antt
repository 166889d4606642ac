-- `text::characters::digit_value` meets its contract: a digit is at least 48. Assumes nothing.
use Rattle.std.proofs.Common.{sym, ◌∙◌}
use Rattle.text.specs.Characters.{digit_value}
use Rattle.text.proofs.Notations.{digit_low}
use Rattle.text.proofs.characters.digit_value.Goals as goal

pub overflow_sub-result : goal.overflow_sub-result
overflow_sub-result c = digit_low _ (sym c.is_digit.ensures ∙ c.if-is_digit.true)

pub returns-then-is_digit : goal.returns-then-is_digit
unfolding digit_value
returns-then-is_digit c = rw (sym c.is_digit.ensures ∙ c.if-is_digit.true)

pub returns-else-is_digit : goal.returns-else-is_digit
unfolding digit_value
returns-else-is_digit c = rw (sym c.is_digit.ensures ∙ c.if-is_digit.false)
