-- `changing::set_days` meets its contract: the tenant's own byte is written. The check finds the refusals by itself.
-- Assumes nothing.
use mathlib.Core.Path.{sym, ◌∙◌}
use native.Mathlib.Omega.{arith}
use Rattle.tenants.proofs.Ranges.{days_below}
use Rattle.layout.proofs.Frame.{book_frame}
use Rattle.changing.proofs.Done.{days_set}
use Rattle.changing.proofs.set_days.Goals as goal

pub overflow_cast-book : goal.overflow_cast-book
overflow_cast-book c = omega (arith, days_below _ (sym c.is_days.ensures ∙ c.if-not-is_days.false))

pub bounds-book-at : goal.bounds-book-at
bounds-book-at c = omega (arith, c.if-tenant-gt15.false, (book_frame _ (sym c.is_book.ensures ∙ c.if-not-is_book.false)).size)

pub returns : goal.returns
returns c =
    days_set _ (sym c.is_book.ensures ∙ c.if-not-is_book.false) _ c.if-tenant-gt15.false _ (sym c.is_days.ensures ∙ c.if-not-is_days.false)
