-- `text::characters::hex_value` meets its contract: a digit is at least 48. Assumes nothing.
use Rattle.std.proofs.Common.{sym, ◌∙◌, arith}
use Rattle.text.proofs.Notations.{digit_low, hex_by_tests}
use Rattle.text.proofs.characters.hex_value.Goals as goal

pub overflow_sub-result : goal.overflow_sub-result
overflow_sub-result c = digit_low _ (sym c.is_digit.ensures ∙ c.if-is_digit.true)

pub returns-then-is_digit : goal.returns-then-is_digit
returns-then-is_digit c = rw (hex_by_tests c.args.c (omega arith), sym c.is_digit.ensures ∙ c.if-is_digit.true)

pub returns-else-is_digit : goal.returns-else-is_digit
returns-else-is_digit c =
    c.letter_value-letter.ensures
    ∙ sym (rw (hex_by_tests c.args.c (omega arith), sym c.is_digit.ensures ∙ c.if-is_digit.false))
