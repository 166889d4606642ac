-- `text::reading::number_at` meets its contract: the number of the part, where it is not too long and lies within. Assumes nothing.
use Rattle.std.proofs.Common.{sym, ◌∙◌, leb-false, leb-true}
use Rattle.text.specs.Bases.{number_at}
use Rattle.text.proofs.NumbersAt.{number-too-long, number-refused, read_at}
use Rattle.text.proofs.NumbersIn.{of_base, read_part}
use Rattle.text.proofs.TextsAt.{all_beyond}
use Rattle.text.proofs.reading.number_at.Goals as goal

pub returns-then-most-n : goal.returns-then-most-n
unfolding number_at read_at
returns-then-most-n c = sym (number-too-long (of_base c.args.base) _ _ _ _ (rw c.most.ensures at c.if-most-n.true))

pub returns-then-not-lies_within : goal.returns-then-not-lies_within
unfolding number_at read_at
returns-then-not-lies_within c =
    sym (number-refused (of_base c.args.base) _ _ _ _ (rw c.most.ensures at c.if-most-n.false)
    (all_beyond _ _ _ _ (leb-false _ _ (sym c.lies_within.ensures ∙ c.if-not-lies_within.true))))

pub returns : goal.returns
returns c =
    c.number_in.ensures
    ∙ read_part c.args.base c.args.n c.args.s.now c.args.at
    (rw c.most.ensures at c.if-most-n.false)
    (leb-true _ _ (sym c.lies_within.ensures ∙ c.if-not-lies_within.false))
