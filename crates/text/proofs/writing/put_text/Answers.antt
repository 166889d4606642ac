-- `text::writing::put_text` meets its contract: the part is the text where it lies within. Assumes nothing.
use Rattle.std.proofs.Common.{sym, ◌∙◌, leb-false, leb-true, arith}
use Rattle.text.proofs.PlacedTexts.{placed_beyond, placed_mid}
use Rattle.text.proofs.writing.put_text.Goals as goal

pub returns-then-lies_within : goal.returns-then-lies_within
returns-then-lies_within c =
    placed_mid _ _ _ _ _ (leb-true _ _ (sym c.lies_within.ensures ∙ c.if-lies_within.true)) (omega arith) c.copy_from_slice.ensures.after

pub returns-else-lies_within : goal.returns-else-lies_within
returns-else-lies_within c = sym (placed_beyond _ _ _ (leb-false _ _ (sym c.lies_within.ensures ∙ c.if-lies_within.false)))
