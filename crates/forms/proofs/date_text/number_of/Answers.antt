-- `forms::date_text::number_of` meets its contract.
-- Assumes nothing.
use native.Mathlib.Omega.{arith}
use borrow.Author.Rules.{rules}
use Rattle.forms.proofs.EightDigits.{bytes_small, eight-digits}
use Rattle.forms.proofs.date_text.number_of.Goals as goal

pub overflow_add-result-6 : goal.overflow_add-result-6
overflow_add-result-6 c = let all = bytes_small c.args.x (omega arith) in search rules

pub overflow_add-result-7 : goal.overflow_add-result-7
overflow_add-result-7 c = let all = bytes_small c.args.x (omega arith) in search rules

pub overflow_sub-result : goal.overflow_sub-result
overflow_sub-result c = omega (arith, eight-digits c.args.x (omega arith) c.requires)

pub returns : goal.returns
returns c = omega (arith, eight-digits c.args.x (omega arith) c.requires)
