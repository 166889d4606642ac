-- `octets::numbers::number32` meets its contract. Assumes nothing.
use mathlib.Core.Path.{sym, ◌∙◌}
use borrow.Author.Tests.{leb-true, leb-false}
use Rattle.octets.proofs.Places.{number_beyond}
use Rattle.octets.proofs.numbers.number32.Goals as goal

pub four_bytes-requires : goal.four_bytes-requires
four_bytes-requires c = leb-true _ _ (sym c.lies_within.ensures ∙ c.if-lies_within.true)

pub returns-else-lies_within : goal.returns-else-lies_within
returns-else-lies_within c = sym (number_beyond 4 _ _ (leb-false _ _ (sym c.lies_within.ensures ∙ c.if-lies_within.false)))
