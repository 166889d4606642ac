-- `text::reading::stands_at` meets its contract: what is left from the place starts with the text. Assumes nothing.
use Rattle.std.proofs.Common.{sym, ◌∙◌, arith}
use Rattle.text.proofs.SameTexts.{stands_first, stands_beyond}
use Rattle.text.proofs.reading.stands_at.Goals as goal

pub returns-then-at-s : goal.returns-then-at-s
returns-then-at-s c = c.starts_with.ensures.value ∙ stands_first c.args.text.now c.args.s.now c.args.at

pub returns-else-at-s : goal.returns-else-at-s
returns-else-at-s c = c.is_empty.ensures ∙ sym (stands_beyond c.args.text.now c.args.s.now c.args.at (omega (arith, c.if-at-s.false)))
