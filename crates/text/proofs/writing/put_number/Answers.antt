-- `text::writing::put_number` meets its contract: the part is the digits where it lies within. Assumes nothing.
use Rattle.std.proofs.Common.{sym, ◌∙◌, leb-false, leb-true}
use Rattle.text.specs.Bases.{base_of, character_in}
use Rattle.text.proofs.LowDigits.{placed_digits, no_place}
use Rattle.text.proofs.writing.put_number.Goals as goal

pub returns-then-lies_within : goal.returns-then-lies_within
returns-then-lies_within c =
    placed_digits (base_of c.args.base) (character_in c.args.base) _ _ _ _ _
    (leb-true _ _ (sym c.lies_within.ensures ∙ c.if-lies_within.true))
    c.put_digits.ensures

pub returns-else-lies_within : goal.returns-else-lies_within
returns-else-lies_within c =
    no_place (base_of c.args.base) (character_in c.args.base) _ _ _ _ (leb-false _ _ (sym c.lies_within.ensures ∙ c.if-lies_within.false))
