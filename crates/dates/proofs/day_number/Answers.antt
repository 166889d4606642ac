-- `dates::day_number` asks for the days before a month that is one: that of a date. Assumes nothing.
use Rattle.dates.specs.Calendar.{month}
use Rattle.dates.proofs.Parts.{date_parts}
use Rattle.dates.proofs.day_number.Goals as goal

pub days_before_month-before-requires : goal.days_before_month-before-requires
unfolding month
days_before_month-before-requires c = let p = date_parts c.args.date (cc) in (p.month_low, p.month_high)
