-- `text::characters::is_digit_or_capital` meets its contract: the letter is tested where c is no digit. Assumes nothing.
use Rattle.std.proofs.Common.{sym, ◌∙◌}
use Rattle.text.proofs.characters.is_digit_or_capital.Goals as goal

pub returns-then-is_digit : goal.returns-then-is_digit
returns-then-is_digit c = c.if-is_digit.true ∙ rw (sym c.is_digit.ensures ∙ c.if-is_digit.true)

pub returns-else-is_digit : goal.returns-else-is_digit
returns-else-is_digit c = c.within.ensures ∙ rw (sym c.is_digit.ensures ∙ c.if-is_digit.false)
