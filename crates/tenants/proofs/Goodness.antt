-- What is tested of a good book, as facts that proofs use; and back.
-- Assumes nothing.
use mathlib.Core.Path.{◌≡◌, refl}
use mathlib.Core.Bool.{Bool, true, ◌&&◌}
use mathlib.Core.List.{List, [], ◌∷◌}
use Prim.Native.Nat.{ℕ, zero, suc, ◌+◌, ◌≤◌, ◌<◌}
use native.Mathlib.Nat.{add-zero, zero-add, add-suc, suc-add}
use native.Mathlib.Omega.{arith}
use borrow.Author.Tests.{leb-true, le-leb, eqb-true, eq-eqb, lt-ltb}
use lib.Dec.{leb}
use lib.ListN.{length, get_or}
use Rattle.octets.proofs.Every.{and_first, and_second}
use Rattle.tenants.specs.declared.Setting.{Setting}
use Rattle.tenants.specs.Cells.{starts_above}
use Rattle.tenants.specs.Together.{
  BookRecord,
  Book,
  cells_of,
  no_setting,
  is_setting,
  are_settings,
  is_principal,
  are_principals,
  quota_sum,
  is_record,
  are_records,
  within_quotas,
  is_good,
}
use Rattle.tenants.proofs.Ordered.{Above, Sorted, records_sorted}

-- each record is one
abbrev pub EachRecord : List BookRecord → Type 0
EachRecord [] = Unit {0}
EachRecord (r ∷ records) = (is_record r ≡ true) × EachRecord records

-- each setting is one
abbrev EachSetting : List Setting → Type 0
EachSetting settings = (t : ℕ) → t < length settings → is_setting (get_or settings t no_setting) ≡ true

-- what holds of each tenant from t on and its setting; the settings are those of tenant t and the following
abbrev From : (ℕ → Setting → Type 0) → ℕ → List Setting → Type 0
From P t settings = (i : ℕ) → i < length settings → P (t + i) (get_or settings i no_setting)

-- no tenant holds more than its quota
abbrev pub Within : ℕ → List Setting → List BookRecord → Type 0
Within t settings records = From (λ (u : ℕ) (s : Setting). length (cells_of u records) ≤ s.quota) t settings

-- each names a principal that it may, or none; all the settings are given too
abbrev Named : List Setting → ℕ → List Setting → Type 0
Named all t settings = From (λ (u : ℕ) (s : Setting). is_principal all u s ≡ true) t settings

-- a good book
pub record Good (b : Book) : Type 0 where
  pub sixteen : length b.settings ≡ 16
  pub each_setting : (t : ℕ) → t < 16 → is_setting (get_or b.settings t no_setting) ≡ true
  pub named : (t : ℕ) → t < 16 → is_principal b.settings t (get_or b.settings t no_setting) ≡ true
  pub sum : quota_sum b.settings ≤ 512
  pub count : length b.records ≤ 512
  pub sorted : Sorted b.records
  pub each_record : EachRecord b.records
  pub within : (t : ℕ) → t < 16 → length (cells_of t b.records) ≤ (get_or b.settings t no_setting).quota

settings_each : (settings : List Setting) → are_settings settings ≡ true → EachSetting settings
unfolding are_settings
settings_each [] are t h = absurd (omega arith)
settings_each (s ∷ settings) are zero h = and_first (is_setting s) (are_settings settings) are
settings_each (s ∷ settings) are (suc t) h = settings_each settings (and_second (is_setting s) (are_settings settings) are) t (omega arith)

each_settings : (settings : List Setting) → EachSetting settings → are_settings settings ≡ true
unfolding are_settings
each_settings [] each = refl
each_settings (s ∷ settings) each = rw (each 0 (omega arith), each_settings settings (λ t h. each (suc t) (omega arith)))

records_each : (records : List BookRecord) → are_records records ≡ true → EachRecord records
unfolding are_records
records_each [] are = tt
records_each (r ∷ records) are =
    let starts : Bool = starts_above r.name records in
    let first : is_record r && starts ≡ true = and_first (is_record r && starts) (are_records records) are in
    (and_first (is_record r) starts first, records_each records (and_second (is_record r && starts) (are_records records) are))

above_starts : (name : ℕ) (records : List BookRecord) → Above name records → starts_above name records ≡ true
unfolding starts_above
above_starts name [] above = refl
above_starts name (r ∷ records) above = lt-ltb name r.name above.0

each_records : (records : List BookRecord) → EachRecord records → Sorted records → are_records records ≡ true
unfolding are_records
each_records [] each sorted = refl
each_records (r ∷ records) each sorted =
    rw (each.0, above_starts r.name records sorted.0, each_records records each.1 sorted.1)

module _ (P : ℕ → Setting → Type 0) (t : ℕ) (s : Setting) (settings : List Setting) where
  first_of : From P t (s ∷ settings) → P t s
  first_of from = rw add-zero at (from 0 (omega arith))

  rest_of : From P t (s ∷ settings) → From P (suc t) settings
  rest_of from i h = rw (suc-add, ← add-suc) (from (suc i) (omega arith))

  first_and_rest : P t s → From P (suc t) settings → From P t (s ∷ settings)
  first_and_rest first rest zero h = rw add-zero first
  first_and_rest first rest (suc i) h = rw (add-suc, ← suc-add) (rest i (omega arith))

pub within_first : (t : ℕ) (s : Setting) (settings : List Setting) (records : List BookRecord) → Within t (s ∷ settings) records
    → length (cells_of t records) ≤ s.quota
within_first t s settings records = first_of (λ (u : ℕ) (s : Setting). length (cells_of u records) ≤ s.quota) t s settings

pub within_rest : (t : ℕ) (s : Setting) (settings : List Setting) (records : List BookRecord) → Within t (s ∷ settings) records
    → Within (suc t) settings records
within_rest t s settings records = rest_of (λ (u : ℕ) (s : Setting). length (cells_of u records) ≤ s.quota) t s settings

quotas_within : (t : ℕ) (settings : List Setting) (records : List BookRecord) → within_quotas t settings records ≡ true → Within t settings records
unfolding within_quotas
quotas_within t [] records are = λ i h. absurd (omega arith)
quotas_within t (s ∷ settings) records are =
    let first : Bool = leb (length (cells_of t records)) s.quota in
    let rest : Bool = within_quotas (suc t) settings records in
    first_and_rest (λ (u : ℕ) (s : Setting). length (cells_of u records) ≤ s.quota) t s settings
    (leb-true (length (cells_of t records)) s.quota (and_first first rest are))
    (quotas_within (suc t) settings records (and_second first rest are))

within_quotas_lem : (t : ℕ) (settings : List Setting) (records : List BookRecord) → Within t settings records → within_quotas t settings records ≡ true
unfolding within_quotas
within_quotas_lem t [] records within = refl
within_quotas_lem t (s ∷ settings) records within =
    rw (le-leb (length (cells_of t records)) s.quota (within_first t s settings records within))
    (within_quotas_lem (suc t) settings records (within_rest t s settings records within))

module _ (all : List Setting) where
  principals_named : (t : ℕ) (settings : List Setting) → are_principals all t settings ≡ true → Named all t settings
  unfolding are_principals
  principals_named t [] are = λ i h. absurd (omega arith)
  principals_named t (s ∷ settings) are =
      first_and_rest (λ (u : ℕ) (s : Setting). is_principal all u s ≡ true) t s settings
      (and_first (is_principal all t s) (are_principals all (suc t) settings) are)
      (principals_named (suc t) settings (and_second (is_principal all t s) (are_principals all (suc t) settings) are))

  named_principals : (t : ℕ) (settings : List Setting) → Named all t settings → are_principals all t settings ≡ true
  unfolding are_principals
  named_principals t [] named = refl
  named_principals t (s ∷ settings) named =
      rw (first_of (λ (u : ℕ) (s : Setting). is_principal all u s ≡ true) t s settings named)
      (named_principals (suc t) settings (rest_of (λ (u : ℕ) (s : Setting). is_principal all u s ≡ true) t s settings named))

-- what a book that is tested good is
pub good_facts : (b : Book) → is_good b ≡ true → Good b
unfolding is_good
good_facts b good = record {
  sixteen = sixteen;
  each_setting = λ t h. settings_each b.settings (search (and_first, and_second)) t (omega (arith, sixteen));
  named = λ t h. rw zero-add at (principals_named b.settings 0 b.settings (search (and_first, and_second)) t (omega (arith, sixteen)));
  sum = leb-true (quota_sum b.settings) 512 (search (and_first, and_second));
  count = leb-true (length b.records) 512 (search (and_first, and_second));
  sorted = records_sorted b.records are;
  each_record = records_each b.records are;
  within = λ t h. rw zero-add at (quotas_within 0 b.settings b.records (search (and_first, and_second)) t (omega (arith, sixteen)));
}
  where
    sixteen : length b.settings ≡ 16
    sixteen = eqb-true (length b.settings) 16 (search (and_first, and_second))

    are : are_records b.records ≡ true
    are = search (and_first, and_second)

-- a book that is so is tested good
pub facts_good : (b : Book) → Good b → is_good b ≡ true
unfolding is_good
facts_good b good =
    let sixteen : length b.settings ≡ 16 = good.sixteen in
    rw (
      eq-eqb (length b.settings) 16 sixteen,
      each_settings b.settings (λ t h. good.each_setting t (omega arith)),
      named_principals b.settings 0 b.settings (λ t h. rw zero-add (good.named t (omega arith))),
      le-leb (quota_sum b.settings) 512 good.sum,
      le-leb (length b.records) 512 good.count,
      each_records b.records good.each_record good.sorted,
    )
    (within_quotas_lem 0 b.settings b.records (λ t h. rw zero-add (good.within t (omega arith))))
