-- The days left until an expiry, and the notice of a permit. Dates are numbers YYYYMMDD.
use Rattle.std.specs.Prelude.{ℕ, Bool, cond, ◌&&◌, leb, ltb, eqb, ℤ, pos, negsuc, ◌-ℤ◌}
use Rattle.dates.specs.Calendar.{day_number}
use Rattle.dates.specs.declared.Notice.{Notice}
use Rattle.dates.specs.declared.Notice.TheVariants.{Current, Soon, Expired}

-- the day number of the expiry less that of today: below zero when the date has passed
unfoldable pub days_left : ℕ → ℕ → ℤ
days_left today expiry = pos (day_number expiry) -ℤ pos (day_number today)

-- warning days are 1 to 90
unfoldable pub is_days : ℕ → Bool
is_days days = leb 1 days && leb days 90

-- the notice of a subscription. Days left below zero: expired; from zero to less than the warning days: soon; otherwise current
unfoldable pub subscription_notice : ℤ → ℕ → Notice
subscription_notice (negsuc n) days = Expired
subscription_notice (pos n) days = cond (ltb n days) Soon Current

-- the notice of a permit: service level 0 is a subscription; a single purchase, 1, is current for any number of days left
unfoldable pub notice_of : ℕ → ℤ → ℕ → Notice
notice_of level left days = cond (eqb level 0) (subscription_notice left days) Current

-- the notice's number
abbrev pub notice_number : Notice → ℕ
notice_number Current = 0
notice_number Soon = 20
notice_number Expired = 15
