-- `text::reading::all_of` meets its contract: the part is tested where it lies within. Assumes nothing.
use Rattle.std.proofs.Common.{sym, ◌∙◌, leb-false, leb-true}
use Rattle.text.proofs.TextsAt.{all_beyond, range_all}
use Rattle.text.proofs.reading.all_of.Goals as goal

pub returns-then-lies_within : goal.returns-then-lies_within
returns-then-lies_within c = c.are_all.ensures ∙ range_all _ _ _ _ (leb-true _ _ (sym c.lies_within.ensures ∙ c.if-lies_within.true))

pub returns-else-lies_within : goal.returns-else-lies_within
returns-else-lies_within c = c.if-lies_within.false ∙ sym (all_beyond _ _ _ _ (leb-false _ _ (sym c.lies_within.ensures ∙ c.if-lies_within.false)))
