-- `text::writing::put_raised` meets its contract: the part is the text, raised, where it lies within. Assumes nothing.
use Rattle.std.proofs.Common.{◌≡◌, length, sym, ap, ◌∙◌, leb-false, leb-true, arith}
use lib.ListN.{length-map}
use Rattle.text.specs.Characters.{raised, raised_text}
use Rattle.text.proofs.PlacedTexts.{placed_mid}
use Rattle.text.proofs.PutTexts.{raised_beyond}
use Rattle.text.proofs.writing.put_raised.Goals as goal

pub returns-then-lies_within : goal.returns-then-lies_within
returns-then-lies_within c =
    let args = c.args in
    let size : length (raised_text args.text.now) ≡ length args.text.now = length-map args.text.now raised in
    placed_mid _ _ _ _ (raised_text args.text.now)
    (rw size (leb-true _ _ (sym c.lies_within.ensures ∙ c.if-lies_within.true)))
    (rw size (omega arith))
    (c.raise.ensures ∙ ap raised_text c.copy_from_slice.ensures.after)

pub returns-else-lies_within : goal.returns-else-lies_within
returns-else-lies_within c = sym (raised_beyond _ c.args.text.now _ (leb-false _ _ (sym c.lies_within.ensures ∙ c.if-lies_within.false)))
