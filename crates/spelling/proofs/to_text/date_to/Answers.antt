-- `spelling::to_text::date_to` meets its contract. A date is eight digits.
-- Assumes nothing.
use mathlib.Core.Path.{sym, ◌∙◌}
use Rattle.spelling.proofs.Texts.{date_text}
use Rattle.spelling.proofs.to_text.date_to.Goals as goal

pub returns-then-is_date : goal.returns-then-is_date
returns-then-is_date c = c.put_decimal.ensures ∙ date_text _ (sym c.is_date.ensures ∙ c.if-is_date.true)
