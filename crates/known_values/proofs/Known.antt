-- Every row of the table of known values holds of the definitions. Assumes nothing.
use mathlib.Core.Path.{refl}
use lib.IntN.{pos}
use Rattle.octets.specs.Numbers.{digits, value}
use Rattle.octets.specs.Every.{all_of}
use Rattle.text.specs.Characters.{is_digit, raised, is_upper_hex, is_hex, hex_character}
use Rattle.dates.specs.Calendar.{year, month, day, is_leap, month_lengths, days_in, within, is_date, multiples_below, days_before_year, sum, days_before_month, day_number}
use Rattle.dates.specs.Notice.{days_left, subscription_notice, notice_of}
use Rattle.dates.proofs.Left.{same_day_lem}
use Rattle.forms.specs.Identifiers.{is_text, hw_id6}
use Rattle.user_permit.specs.UserPermit.{m_id_part}
use Rattle.cell_permit.specs.Line.{given_answer}
use Rattle.book.proofs.FirstCell.{first_cell}
use Rattle.known_values.specs.Rows.{Holds, EachHolds, rows, same_day}

same_day_holds : Holds (same_day (pos 0) 20)
unfolding notice_of subscription_notice
same_day_holds d = (same_day_lem d, rw (same_day_lem d))

infixr 5 ◌and◌
◌and◌ : {A B : Type 0} → A → B → A × B
a and b = (a, b)

-- P1 to P12, in the table's order: antt computes all but P5 and P12
pub known : EachHolds rows
unfolding year month day is_leap month_lengths days_in within is_date multiples_below days_before_year sum days_before_month day_number days_left subscription_notice notice_of digits value hex_character is_digit raised is_upper_hex is_hex all_of is_text hw_id6 m_id_part given_answer
known =
    (refl, refl)
    and (refl, refl)
    and (refl, refl)
    and (refl, refl)
    and same_day_holds
    and refl
    and refl
    and refl
    and refl
    and refl
    and (λ today days. refl)
    and (λ quotas ids principals s book t cell made tenant roomy held. first_cell quotas ids principals t cell tenant roomy held s book made)
    and tt
