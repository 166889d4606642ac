-- A line that is issued from an undamaged book is written and not refused: its tests have passed before, or cannot fail there.
-- Assumes nothing.
use mathlib.Core.Path.{◌≡◌, refl, sym}
use mathlib.Core.Bool.{true}
use mathlib.Core.List.{List}
use mathlib.Core.Option.{Option, none, some}
use Prim.Native.Nat.{ℕ, ◌^◌, ◌≤◌}
use borrow.Author.Tests.{le-leb, lt-ltb}
use Rattle.std.specs.Prelude.{Ok}
use Rattle.octets.proofs.Every.{and_first, and_second}
use Rattle.dates.specs.Calendar.{is_date}
use Rattle.dates.specs.Notice.{is_days}
use Rattle.forms.specs.Identifiers.{is_server_id}
use Rattle.user_permit.specs.UserPermit.{read_permit}
use Rattle.user_permit.specs.declared.Ship.{Ship}
use Rattle.user_permit.proofs.ShipRead.{ship_form}
use Rattle.cell_permit.specs.CellPermit.{is_cell, written_line}
use Rattle.tenants.specs.declared.Held.{Held}
use Rattle.tenants.specs.Cells.{cell_of}
use Rattle.tenants.specs.Rules.{is_tenant, line_cell, line_for}
use Rattle.tenants.specs.Together.{own_of, is_setting}
use Rattle.tenants.proofs.Ranges.{Fit, tenant_below, held_fits}
use Rattle.tenants.proofs.FoundHeld.{found_held}
use Rattle.layout.specs.Layout.{book_of, is_book, list_in, own_in}
use Rattle.layout.proofs.Promises.{good}
use Rattle.asking.specs.Issuing.{line_written}

module _ (s : List ℕ) (t : ℕ) (undamaged : is_book s ≡ true) (tenant : is_tenant t ≡ true) where
  -- a tenant's setting is one
  pub set : is_setting (own_in s t).setting ≡ true
  unfolding own_of
  set = (good s undamaged).each_setting t (tenant_below t tenant)

  pub set_days_lem : is_days (own_in s t).setting.days ≡ true
  unfolding is_setting
  set_days_lem = and_first (is_days (own_in s t).setting.days) (is_server_id (own_in s t).setting.server) set

  -- what it holds under a name has all its values in their ranges
  pub fits : (name : ℕ) (cell : Held) → cell_of name (own_in s t).cells ≡ some cell → Fit cell
  unfolding own_of
  fits name cell found = held_fits cell (found_held (list_in s t) name cell (book_of s).records (good s undamaged).each_record found)

  module _ (expiry level : ℕ) (date : is_date expiry ≡ true) (low : level ≤ 1) where
    -- a held cell and the setting give a line all that it is written from
    pub cell-good : (name : ℕ) (cell : Held) → cell_of name (own_in s t).cells ≡ some cell
        → is_cell (line_cell (own_in s t).setting cell expiry level) ≡ true
    unfolding is_cell is_setting
    cell-good name cell found =
        let fit : Fit cell = fits name cell found in
        rw (
          fit.name,
          date,
          lt-ltb cell.key1 (256 ^ 5) fit.key1,
          lt-ltb cell.key2 (256 ^ 5) fit.key2,
          le-leb level 1 low,
          le-leb 1 cell.edition fit.low,
          le-leb cell.edition 999 fit.high,
          and_second (is_days (own_in s t).setting.days) (is_server_id (own_in s t).setting.server) set,
        )

    -- so writing gives the line of the rules
    pub line-written : (register permit : List ℕ) (ship : Ship) → read_permit register permit ≡ Ok ship → (name room : ℕ) → 76 ≤ room
        → line_for (Ok ship) (cell_of name (own_in s t).cells) (own_in s t).setting expiry level
        ≡ line_written ship.hw_id (cell_of name (own_in s t).cells) (own_in s t).setting expiry level room
    unfolding written_line
    line-written register permit ship read name room fits_in = go (cell_of name (own_in s t).cells) refl
      where
        go : (found : Option Held) → cell_of name (own_in s t).cells ≡ found
            → line_for (Ok ship) found (own_in s t).setting expiry level ≡ line_written ship.hw_id found (own_in s t).setting expiry level room
        go none is = refl
        go (some cell) is =
            sym (rw (le-leb 76 room fits_in, cell-good name cell is, ship_form ship register permit read) refl)
