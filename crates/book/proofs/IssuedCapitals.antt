-- What is issued is in capitals: it is a line that writing gives, or a refusal.
-- Assumes nothing.
use mathlib.Core.Path.{◌≡◌, refl}
use mathlib.Core.Bool.{◌&&◌}
use mathlib.Core.Option.{Option, none, some}
use Prim.Native.Nat.{ℕ}
use borrow.Author.Tests.{leb-true}
use lib.Dec.{leb}
use Rattle.std.specs.Prelude.{Result, Ok, Err}
use Rattle.octets.proofs.Every.{and_first, and_second}
use Rattle.dates.specs.Calendar.{is_date}
use Rattle.forms.specs.Identifiers.{is_cell_name}
use Rattle.forms.specs.Output.{refusal, InCapitals}
use Rattle.forms.specs.Refusals.{by}
use Rattle.forms.proofs.Demands.{demanded}
use Rattle.forms.specs.declared.refusals.Refusal.{Refusal}
use Rattle.user_permit.specs.Register.{is_register}
use Rattle.user_permit.specs.UserPermit.{read_permit}
use Rattle.user_permit.specs.declared.Ship.{Ship}
use Rattle.cell_permit.proofs.WrittenCapitals.{written_in_capitals}
use Rattle.tenants.specs.declared.Held.{Held}
use Rattle.tenants.specs.declared.Setting.{Setting}
use Rattle.tenants.specs.Cells.{cell_of}
use Rattle.tenants.specs.Rules.{is_tenant, line_cell, in_time, line_for, issuing}
use Rattle.layout.specs.Layout.{is_book, own_in}
use Rattle.asking.specs.Asking.{issued_from}
use Rattle.asking.specs.Issuing.{line_written}
use Rattle.asking.proofs.LineWritten.{line-written}
use Rattle.book.specs.EitherCase.{IssuedInCapitals}

line_in_capitals : (hw : ℕ) (cell : Option Held) (setting : Setting) (expiry level room : ℕ)
    → InCapitals (line_written hw cell setting expiry level room)
line_in_capitals hw none setting expiry level room = refl
line_in_capitals hw (some cell) setting expiry level room =
    demanded InCapitals (in_time cell expiry) (refusal (by 112)) _ refl (λ _. written_in_capitals hw room (line_cell setting cell expiry level))

pub issued_in_capitals : IssuedInCapitals
unfolding issued_from issuing
issued_in_capitals s register permit t name expiry level room =
    let cell = cell_of name (own_in s t).cells in
    demanded InCapitals (is_book s) (refusal (by 101)) _ refl
    (λ undamaged. demanded InCapitals (is_register register) (refusal (by 109)) _ refl
    (λ _. demanded InCapitals (is_tenant t) (refusal (by 102)) _ refl
    (λ tenant. demanded InCapitals (leb 76 room) (refusal (by 108)) _ refl
    (λ roomy. demanded InCapitals (is_cell_name name && is_date expiry && leb level 1) (refusal (by 103)) _ refl
    (λ values.
    let date = and_second (is_cell_name name) (is_date expiry) (and_first (is_cell_name name && is_date expiry) (leb level 1) values) in
    let low = leb-true level 1 (and_second (is_cell_name name && is_date expiry) (leb level 1) values) in
    go cell (own_in s t).setting (read_permit register permit) refl
    (λ ship read. line-written s t undamaged tenant expiry level date low register permit ship read name room (leb-true 76 room roomy)))))))
  where
    go : (cell : Option Held) (setting : Setting) (read : Result Ship Refusal) → read_permit register permit ≡ read
        → ((ship : Ship) → read_permit register permit ≡ Ok ship → line_for (Ok ship) cell setting expiry level ≡ line_written ship.hw_id cell setting expiry level room)
        → InCapitals (line_for read cell setting expiry level)
    go cell setting (Err r) is written = refl
    go cell setting (Ok ship) is written = rw (written ship is) (line_in_capitals ship.hw_id cell setting expiry level room)
