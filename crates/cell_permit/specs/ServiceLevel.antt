-- What reading a line promises of service levels: only of a subscription is it said that it expires.
use Rattle.std.specs.Prelude.{◌≡◌, Bool, true, ◌||◌, List, ℕ, eqb, Ok}
use Rattle.text.specs.Texts.{part}
use Rattle.dates.specs.Notice.{days_left, subscription_notice, notice_of}
use Rattle.dates.specs.declared.Notice.TheVariants.{Current}
use Rattle.forms.specs.Refusals.{refusal_number}
use Rattle.cell_permit.specs.Line.{is_line, parts_of, read_with, read_line, line_number}
use Rattle.cell_permit.specs.declared.Record.{Record}

-- under any words: a record that is read has the notice of its own service level and expiry
abbrev pub OwnNotice : Type 0
OwnNotice =
    (words : List ℕ) (today days : ℕ) (s : List ℕ) (r : Record) → read_with words today days s ≡ Ok r
    → r.notice ≡ notice_of r.level (days_left today r.expiry) days

-- expired or soon
abbrev pub is_warning : ℕ → Bool
is_warning number = eqb number 15 || eqb number 20

-- 15 and 20 come only for service level 0: a line that gets one of them has the shape, and that level
abbrev pub WarnsLevel0Alone : Type 0
WarnsLevel0Alone =
    (hw today days : ℕ) (s : List ℕ) → is_warning (line_number (read_line hw today days s)) ≡ true
    → (is_line s ≡ true) × ((parts_of s).fields.level ≡ 0)

-- a single purchase that is read is current, whatever its expiry, today and the warning days
abbrev pub SinglesAreCurrent : Type 0
SinglesAreCurrent =
    (hw today days : ℕ) (s : List ℕ) (r : Record) → read_line hw today days s ≡ Ok r → r.level ≡ 1
    → r.notice ≡ Current

-- for service level 0 nothing changed: the notice is the one that its days left give
abbrev pub SubscriptionsAsBefore : Type 0
SubscriptionsAsBefore =
    (hw today days : ℕ) (s : List ℕ) (r : Record) → read_line hw today days s ≡ Ok r → r.level ≡ 0
    → r.notice ≡ subscription_notice (days_left today r.expiry) days

-- no refusal goes by the service level: lines of good shape with the same permit, the first 64 characters, are refused alike
abbrev pub LevelsRefusedAlike : Type 0
LevelsRefusedAlike =
    (hw today days : ℕ) (s t : List ℕ) → is_line s ≡ true → is_line t ≡ true → part 64 s 0 ≡ part 64 t 0
    → refusal_number (read_line hw today days s) ≡ refusal_number (read_line hw today days t)
