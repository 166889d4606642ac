-- Sixteen tenants together: one list of all their cells, ordered by tenant and then by name.
use Rattle.std.specs.Prelude.{Bool, true, cond, not, ◌&&◌, ◌||◌, List, [], ◌∷◌, ℕ, suc, ◌+◌, ◌-◌, ◌*◌, ◌/◌, ◌%◌, leb, eqb, length, get_or, set}
use Rattle.dates.specs.Notice.{is_days}
use Rattle.forms.specs.Identifiers.{is_server_id}
use Rattle.tenants.specs.declared.Held.{Held}
use Rattle.tenants.specs.declared.Setting.{Setting}
use Rattle.tenants.specs.Cells.{entered, withdrawn, starts_above}
use Rattle.tenants.specs.Rules.{Own, Change, enters, withdraws, sets, nothing, refuses, is_tenant, is_held, names_none}
use Rattle.tenants.specs.Alone.{with_days}

-- a record of the book is a tenant's cell under its full name; both lists, a tenant's cells and the records, are kept by the same rules
abbrev pub BookRecord : Type 0
BookRecord = Held

-- the settings by tenant, and the records
pub record Book : Type 0 where
  pub settings : List Setting
  pub records : List BookRecord

-- names are numbers of eight bytes, so below 256 ^ 8
abbrev pub names : ℕ
names = 18446744073709551616

-- the full name: one byte more in front, the tenant, so that full names go by tenant and then by name
abbrev pub full_name : ℕ → ℕ → ℕ
full_name t name = t * names + name

-- the full name of a record
abbrev pub full : BookRecord → ℕ
full r = r.name

-- its tenant
abbrev pub tenant_of : BookRecord → ℕ
tenant_of r = full r / names

-- its cell name
abbrev pub name_of : BookRecord → ℕ
name_of r = full r % names

-- the same edition, keys and last expiry under another name
abbrev pub named : ℕ → Held → Held
named name cell = record { name = name; edition = cell.edition; key1 = cell.key1; key2 = cell.key2; last = cell.last }

-- the record of tenant t's cell
abbrev pub in_book : ℕ → Held → BookRecord
in_book t cell = named (full_name t cell.name) cell

-- the cell of a record, under its own name
abbrev pub cell_in : BookRecord → Held
cell_in r = named (name_of r) r

-- the cells that stand under tenant t's number, by their names
unfoldable pub cells_of : ℕ → List BookRecord → List Held
cells_of t [] = []
cells_of t (r ∷ records) = cond (eqb (tenant_of r) t) (cell_in r ∷ cells_of t records) (cells_of t records)

-- the setting of a number that is no tenant's
abbrev pub no_setting : Setting
no_setting = record { quota = 0; days = 0; server = 0; principal = 0 }

-- the setting of tenant t
abbrev pub setting_of : ℕ → Book → Setting
setting_of t book = get_or book.settings t no_setting

-- the tenant whose list tenant t reads: its principal where it is a branch, and else itself
unfoldable pub list_of : ℕ → Book → ℕ
list_of t book = cond (names_none (setting_of t book)) t ((setting_of t book).principal - 1)

-- what is tenant t's own: its setting, and the cells of that list
unfoldable pub own_of : ℕ → Book → Own
own_of t book = record { setting = setting_of t book; cells = cells_of (list_of t book) book.records }

-- the book after a change that tenant t makes
abbrev pub changed : ℕ → Change → Book → Book
changed t (enters cell) book = record { settings = book.settings; records = entered (in_book t cell) book.records }
changed t (withdraws name) book = record { settings = book.settings; records = withdrawn (full_name t name) book.records }
changed t (sets days) book = record { settings = set book.settings t (with_days days (setting_of t book)); records = book.records }
changed t nothing book = book
changed t (refuses r) book = book

-- warning days 1 to 90, and a Data Server ID
unfoldable pub is_setting : Setting → Bool
is_setting setting = is_days setting.days && is_server_id setting.server

-- each setting is so
unfoldable pub are_settings : List Setting → Bool
are_settings [] = true
are_settings (s ∷ settings) = is_setting s && are_settings settings

-- what a setting s of tenant t may name: none, or a tenant 0 to 15 that is not t itself and names none itself; then t's quota is 0
unfoldable pub is_principal : List Setting → ℕ → Setting → Bool
is_principal settings t s =
    names_none s
    || (is_tenant (s.principal - 1) && not (eqb (s.principal - 1) t) && names_none (get_or settings (s.principal - 1) no_setting) && eqb s.quota 0)

-- each of these names so, which are those of tenant t and the following
unfoldable pub are_principals : List Setting → ℕ → List Setting → Bool
are_principals settings t [] = true
are_principals settings t (s ∷ following) = is_principal settings t s && are_principals settings (suc t) following

-- the sum of the quotas
unfoldable pub quota_sum : List Setting → ℕ
quota_sum [] = 0
quota_sum (s ∷ settings) = s.quota + quota_sum settings

-- tenant 0 to 15, and a cell with its name, edition, keys and last expiry
unfoldable pub is_record : BookRecord → Bool
is_record r = is_tenant (tenant_of r) && is_held (cell_in r)

-- each record is so, and they rise strictly by tenant and then by name
unfoldable pub are_records : List BookRecord → Bool
are_records [] = true
are_records (r ∷ records) = is_record r && starts_above (full r) records && are_records records

-- no tenant holds more than its quota; the settings are those of tenant t and the following
unfoldable pub within_quotas : ℕ → List Setting → List BookRecord → Bool
within_quotas t [] records = true
within_quotas t (s ∷ settings) records = leb (length (cells_of t records)) s.quota && within_quotas (suc t) settings records

-- sixteen settings, principals that may be named, quotas that sum to at most 512, at most 512 records, and all as it should be
unfoldable pub is_good : Book → Bool
is_good book =
    eqb (length book.settings) 16 && are_settings book.settings && are_principals book.settings 0 book.settings
    && leb (quota_sum book.settings) 512
    && leb (length book.records) 512 && are_records book.records
    && within_quotas 0 book.settings book.records
