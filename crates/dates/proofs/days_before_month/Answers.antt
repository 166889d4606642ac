-- `dates::days_before_month` meets its contract: what it computes is where the month starts. Assumes nothing.
use native.Mathlib.Omega.{arith}
use borrow.Author.Tests.{le-leb, lt-leb}
use Rattle.dates.proofs.Months.{month_start}
use Rattle.dates.proofs.days_before_month.Goals as goal

pub returns-then-month-le2 : goal.returns-then-month-le2
returns-then-month-le2 c =
    rw
    (← (month_start c.args.year _ c.requires.0 c.requires.1), le-leb _ _ c.if-month-le2.true)
    (omega arith)

pub returns-then-is_leap : goal.returns-then-is_leap
returns-then-is_leap c =
    rw (
      ← (month_start c.args.year _ c.requires.0 c.requires.1),
      lt-leb _ _ c.if-month-le2.false,
      ← c.is_leap.ensures,
      c.if-is_leap.true,
    )

pub returns-else-is_leap : goal.returns-else-is_leap
returns-else-is_leap c =
    rw (
      ← (month_start c.args.year _ c.requires.0 c.requires.1),
      lt-leb _ _ c.if-month-le2.false,
      ← c.is_leap.ensures,
      c.if-is_leap.false,
    )
