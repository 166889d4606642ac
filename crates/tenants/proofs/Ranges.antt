-- What is tested of a tenant, warning days, a principal, a name, a cell and a record, as bounds; and back.
-- Assumes nothing.
use mathlib.Core.Path.{◌≡◌, refl, sym}
use mathlib.Core.Bool.{true, false}
use mathlib.Core.List.{List}
use Prim.Native.Nat.{ℕ, ◌+◌, ◌-◌, ◌*◌, ◌/◌, ◌%◌, ◌^◌, ◌≤◌, ◌<◌}
use native.Mathlib.Omega.{arith}
use borrow.Author.Tests.{leb-true, le-leb, lt-leb, ltb-true, lt-ltb, eqb-true}
use lib.Dec.{leb, eqb}
use Rattle.octets.proofs.Every.{and_first, and_second, either}
use Rattle.text.specs.Characters.{is_name_character}
use Rattle.dates.specs.Calendar.{year, within, is_date}
use Rattle.dates.specs.Notice.{is_days}
use Rattle.forms.specs.Identifiers.{is_cell_name}
use Rattle.forms.proofs.Fits.{text_fits}
use Rattle.tenants.specs.declared.Held.{Held}
use Rattle.tenants.specs.declared.Setting.{Setting}
use Rattle.tenants.specs.Rules.{is_tenant, is_last, is_held, names_none}
use Rattle.tenants.specs.Together.{in_book, cell_in, BookRecord, names, tenant_of, is_principal, is_record}

module _ (t : ℕ) where
  pub tenant_is : t ≤ 15 → is_tenant t ≡ true
  unfolding is_tenant
  tenant_is few = le-leb t 15 few

  pub tenant_not : 15 < t → is_tenant t ≡ false
  unfolding is_tenant
  tenant_not many = lt-leb t 15 many

  pub tenant_below : is_tenant t ≡ true → t < 16
  unfolding is_tenant
  tenant_below tenant = omega (arith, leb-true t 15 tenant)

pub days_below : (days : ℕ) → is_days days ≡ true → days < 256
unfolding is_days
days_below days right = omega (arith, leb-true days 90 (and_second (leb 1 days) (leb days 90) right))

-- a principal's number plus one
pub principal_below : (settings : List Setting) (t : ℕ) (s : Setting) → is_principal settings t s ≡ true → s.principal ≤ 16
unfolding is_principal names_none is_tenant
principal_below settings t s right =
    either (eqb s.principal 0)
    (λ none. omega (arith, eqb-true s.principal 0 none))
    (λ named. omega (arith, leb-true (s.principal - 1) 15 (search (and_first, rw named at right))))

pub name_below : (name : ℕ) → is_cell_name name ≡ true → name < names
name_below name right = text_fits is_name_character 8 name right

-- a cell with all its values in their ranges
pub record Fit (cell : Held) : Type 0 where
  pub name : is_cell_name cell.name ≡ true
  pub low : 1 ≤ cell.edition
  pub high : cell.edition ≤ 999
  pub key1 : cell.key1 < 256 ^ 5
  pub key2 : cell.key2 < 256 ^ 5
  pub last : is_last cell.last ≡ true

pub held_fits : (cell : Held) → is_held cell ≡ true → Fit cell
unfolding is_held
held_fits cell held = record {
  name = search (and_first, and_second);
  low = leb-true 1 cell.edition (search (and_first, and_second));
  high = leb-true cell.edition 999 (search (and_first, and_second));
  key1 = ltb-true cell.key1 (256 ^ 5) (search (and_first, and_second));
  key2 = ltb-true cell.key2 (256 ^ 5) (search (and_first, and_second));
  last = search (and_first, and_second);
}

pub held_below : (cell : Held) → is_held cell ≡ true → cell.name < names
held_below cell held = name_below cell.name (held_fits cell held).name

-- a cell with a value that does not fit
pub not_fit : (cell : Held) → (Fit cell → ⊥) → false ≡ is_held cell
not_fit cell wrong = either (is_held cell) (λ held. absurd (wrong (held_fits cell held))) (λ bad. sym bad)

-- the last expiry decides where all else fits
pub by_last : (cell : Held) → is_cell_name cell.name ≡ true → 1 ≤ cell.edition → cell.edition ≤ 999
    → cell.key1 ≤ 0xFF_FFFF_FFFF → cell.key2 ≤ 0xFF_FFFF_FFFF → is_last cell.last ≡ is_held cell
unfolding is_held
by_last cell name low high one two =
    rw (
      name,
      le-leb 1 cell.edition low,
      le-leb cell.edition 999 high,
      lt-ltb cell.key1 (256 ^ 5) (omega arith),
      lt-ltb cell.key2 (256 ^ 5) (omega arith),
    )
    refl

-- a last expiry has four bytes
pub last_below : (last : ℕ) → is_last last ≡ true → last < 256 ^ 4
unfolding is_last is_date year within
last_below last right =
    either (eqb last 0)
    (λ none. omega (arith, eqb-true last 0 none))
    (λ some. omega (arith, leb-true (last / 10000) 2999 (search (and_first, and_second, rw some at right))))

module _ (r : BookRecord) (is : is_record r ≡ true) where
  pub record_below : tenant_of r < 16
  unfolding is_record
  record_below = tenant_below (tenant_of r) (and_first (is_tenant (tenant_of r)) (is_held (cell_in r)) is)

  pub record_held : is_held (cell_in r) ≡ true
  unfolding is_record
  record_held = and_second (is_tenant (tenant_of r)) (is_held (cell_in r)) is

-- a tenant's cell is a record
pub record_is : (t : ℕ) (cell : Held) → is_tenant t ≡ true → is_held cell ≡ true → is_record (in_book t cell) ≡ true
unfolding is_record
record_is t cell tenant held =
    let small : cell.name < names = held_below cell held in
    let mine : (t * names + cell.name) / names ≡ t = omega arith in
    let name : (t * names + cell.name) % names ≡ cell.name = omega arith in
    rw (mine, name, tenant, held)
