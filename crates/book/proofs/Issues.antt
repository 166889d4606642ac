-- What a tenant issues reads back: the line of the held cell, which the tenant's own check answers with the notice of its own days.
-- Assumes nothing.
use mathlib.Core.Path.{◌≡◌, refl, sym, ap, ◌∙◌}
use mathlib.Core.Bool.{true}
use mathlib.Core.List.{List, ◌++◌}
use mathlib.Core.Option.{some}
use Prim.Native.Nat.{ℕ, ◌≤◌}
use native.Mathlib.Omega.{arith}
use borrow.Author.Tests.{le-leb}
use Rattle.std.specs.Prelude.{Ok}
use Rattle.dates.specs.Calendar.{is_date}
use Rattle.dates.specs.Notice.{is_days}
use Rattle.forms.specs.Identifiers.{is_hw_id, is_cell_name}
use Rattle.forms.specs.Order.{demand}
use Rattle.forms.specs.Output.{text, refusal}
use Rattle.forms.specs.Refusals.{by, refusal_number}
use Rattle.user_permit.specs.Register.{is_register}
use Rattle.user_permit.specs.UserPermit.{read_permit}
use Rattle.user_permit.specs.declared.Ship.{Ship}
use Rattle.user_permit.proofs.ShipRead.{ship_form}
use Rattle.cell_permit.specs.CellPermit.{ship_words, line_of, line_end}
use Rattle.cell_permit.specs.Line.{given_answer, read_with, read_line}
use Rattle.cell_permit.specs.ReadBack.{record_for}
use Rattle.cell_permit.proofs.LineBack.{line_reads_back}
use Rattle.tenants.specs.declared.Held.{Held}
use Rattle.tenants.specs.declared.Setting.{Setting}
use Rattle.tenants.specs.Cells.{cell_of}
use Rattle.tenants.specs.Rules.{is_tenant, line_cell, in_time, issuing, checking}
use Rattle.tenants.proofs.Ordered.{found_name}
use Rattle.layout.specs.Layout.{is_book, own_in}
use Rattle.asking.specs.Asking.{issued_from, checked_by}
use Rattle.asking.proofs.LineWritten.{set_days_lem, fits, cell-good}
use Rattle.book.specs.Kept.{IssuedReadsBack}

module _ (hw today days : ℕ) (form : is_hw_id hw ≡ true) (date : is_date today ≡ true) (right : is_days days ≡ true) where
  given-good : given_answer hw today days ≡ Ok tt
  unfolding given_answer is_days
  given-good = rw (form, date, right)

  -- what is given is good, so the line is read
  read_so : (line : List ℕ) → read_line hw today days line ≡ read_with (ship_words hw) today days line
  unfolding read_line
  read_so line = rw given-good

-- the line that is issued of a held cell
module _ (s register permit : List ℕ) (t name expiry level room : ℕ) (ship : Ship) (cell : Held) (undamaged : is_book s ≡ true) (tenant : is_tenant t ≡ true)
    (registered : is_register register ≡ true) (read : read_permit register permit ≡ Ok ship) (found : cell_of name (own_in s t).cells ≡ some cell)
    (date : is_date expiry ≡ true) (low : level ≤ 1) (roomy : 76 ≤ room) where
  pub issued_line : issued_from s register t name expiry level permit room
      ≡ demand (in_time cell expiry) (refusal (by 112)) (text (line_of (ship_words ship.hw_id) (line_cell (own_in s t).setting cell expiry level) ++ line_end))
  unfolding issued_from issuing
  issued_line =
      let is_name : is_cell_name name ≡ true = ap is_cell_name (sym (found_name name (own_in s t).cells cell found)) ∙ (fits s t undamaged tenant name cell found).name in
      rw (undamaged, registered, tenant, le-leb 76 room roomy, is_name, date, le-leb level 1 low, read, found) refl

-- what the tenant's own check answers to it
pub line_checked : (s : List ℕ) (t name expiry level hw today : ℕ) (cell : Held) → is_book s ≡ true → is_tenant t ≡ true
    → cell_of name (own_in s t).cells ≡ some cell → is_date expiry ≡ true → level ≤ 1 → is_hw_id hw ≡ true → is_date today ≡ true
    → checked_by s t hw today (line_of (ship_words hw) (line_cell (own_in s t).setting cell expiry level))
    ≡ record_for today (own_in s t).setting.days (line_cell (own_in s t).setting cell expiry level)
unfolding checked_by checking
line_checked s t name expiry level hw today cell undamaged tenant found date low form now =
    let setting : Setting = (own_in s t).setting in
    let days : is_days setting.days ≡ true = set_days_lem s t undamaged tenant in
    rw (undamaged, tenant, form, now)
    (sym (read_so hw today setting.days form now days _)
    ∙ (line_reads_back hw today setting.days 76 (line_cell setting cell expiry level)
    (cell-good s t undamaged tenant expiry level date low name cell found) (ap refusal_number (given-good hw today setting.days form now days)) (omega arith)).1.1)

pub issued_reads_back : IssuedReadsBack
issued_reads_back s register permit t name expiry level room today ship cell undamaged tenant registered read found date early low roomy now = (
  found_name name (own_in s t).cells cell found,
  (
    rw early at (issued_line s register permit t name expiry level room ship cell undamaged tenant registered read found date low roomy),
    line_checked s t name expiry level ship.hw_id today cell undamaged tenant found date low (ship_form ship register permit read) now,
  ),
)
