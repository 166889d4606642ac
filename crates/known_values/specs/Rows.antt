-- The table of known values as one list, and what each of its rows says of the definitions. Warning days are 30.
use Rattle.std.specs.Prelude.{ℕ, ◌<◌, ◌≡◌, true, false, List, [], ◌∷◌, ℤ, pos, neg_ℤ, get_or}
use Prim.Native.String.{String}
use Rattle.octets.specs.Numbers.{bytes_number}
use Rattle.octets.specs.Places.{number_at}
use Rattle.text.specs.Ascii.{ascii}
use Rattle.dates.specs.Calendar.{is_date}
use Rattle.dates.specs.Notice.{days_left, notice_of, notice_number}
use Rattle.forms.specs.Identifiers.{hw_id6}
use Rattle.forms.specs.Output.{text}
use Rattle.user_permit.specs.UserPermit.{m_id_part}
use Rattle.cell_permit.specs.Line.{given_number}
use Rattle.tenants.specs.declared.Held.{Held}
use Rattle.tenants.specs.Rules.{is_tenant, is_held}
use Rattle.opening.specs.Opening.{opened}
use Rattle.changing.specs.Changing.{entry, bytes_after}

-- the kinds of rows, with what is given and then the result
pub data Row : Type 0 where
  left_and_number : (today expiry : ℕ) (left : ℤ) (number : ℕ) → Row
  same_day : (left : ℤ) (number : ℕ) → Row
  no_date : (given : ℕ) → Row
  a_date : (given : ℕ) → Row
  left_alone : (today expiry : ℕ) (left : ℤ) → Row
  six_bytes : (given : ℕ) (hw_id6 : List ℕ) → Row
  in_hex : (given : ℕ) (characters : List ℕ) → Row
  refused_hw_id : (given : ℕ) (number : ℕ) → Row
  used_after_entering : (used : ℕ) → Row

-- an identifier as the number that it is
abbrev pub identifier : String → ℕ
identifier s = bytes_number (ascii s)

-- the table
abbrev pub rows : List Row
rows =
    -- P1
    left_and_number 20240131 20240301 (pos 30) 0
    -- P2
    ∷ left_and_number 20240131 20240229 (pos 29) 20
    -- P3
    ∷ left_and_number 20230131 20230301 (pos 29) 20
    -- P4
    ∷ left_and_number 20240301 20240229 (neg_ℤ (pos 1)) 15
    -- P5
    ∷ same_day (pos 0) 20
    -- P6
    ∷ no_date 19000229
    -- P7
    ∷ a_date 20000229
    -- P8
    ∷ left_alone 19000101 29991231 (pos 401766)
    -- P9
    ∷ six_bytes (identifier "A79AB") (ascii "A79ABA")
    -- P10
    ∷ in_hex (identifier "AB") (ascii "4142")
    -- P11
    ∷ refused_hw_id (identifier "1234G") 18
    -- P12: one cell entered in an opened book
    ∷ used_after_entering 129
    ∷ []

-- the number that comes back for the expiry of a subscription, at 30 warning days
abbrev pub number_at30 : ℕ → ℕ → ℕ
number_at30 today expiry = notice_number (notice_of 0 (days_left today expiry) 30)

-- the used length that a book tells
abbrev pub used_in : List ℕ → ℕ
used_in book = number_at 4 book 1

-- what a row says; that of the same day is for every day, that of the refused HW_ID for every today and every warning days,
-- that of the entered cell for every opened book, every tenant whose quota is above 0 and every cell
abbrev pub Holds : Row → Type 0
Holds (left_and_number today expiry left number) = (days_left today expiry ≡ left) × (number_at30 today expiry ≡ number)
Holds (same_day left number) = (today : ℕ) → (days_left today today ≡ left) × (number_at30 today today ≡ number)
Holds (no_date given) = is_date given ≡ false
Holds (a_date given) = is_date given ≡ true
Holds (left_alone today expiry left) = days_left today expiry ≡ left
Holds (six_bytes given bytes) = hw_id6 given ≡ bytes
Holds (in_hex given characters) = m_id_part given ≡ characters
Holds (refused_hw_id given number) = (today days : ℕ) → given_number given today days ≡ number
Holds (used_after_entering used) =
    (quotas ids principals s book : List ℕ) (t : ℕ) (cell : Held)
    → opened quotas ids principals s ≡ text book → is_tenant t ≡ true → 0 < get_or quotas t 0 → is_held cell ≡ true
    → used_in (bytes_after t (entry book t cell) book) ≡ used

-- each row of a list holds
abbrev pub EachHolds : List Row → Type 0
EachHolds [] = Unit {0}
EachHolds (row ∷ rest) = Holds row × EachHolds rest
