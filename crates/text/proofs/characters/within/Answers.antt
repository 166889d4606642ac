-- `text::characters::within` meets its contract: the second test is made where the first holds. Assumes nothing.
use Rattle.std.proofs.Common.{le-leb}
use borrow.Author.Tests.{lt-leb}
use Rattle.text.proofs.characters.within.Goals as goal

pub returns-then-low-c : goal.returns-then-low-c
returns-then-low-c c = rw (le-leb _ _ c.if-low-c.true)

pub returns-else-low-c : goal.returns-else-low-c
returns-else-low-c c = rw (lt-leb _ _ c.if-low-c.false)
