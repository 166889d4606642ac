-- A good book stays good, whatever call a tenant makes.
-- Assumes nothing.
use mathlib.Core.Path.{◌≡◌, refl, sym, ap, ◌∙◌}
use mathlib.Core.Bool.{true}
use mathlib.Core.List.{List, [], ◌∷◌}
use Prim.Native.Nat.{ℕ, zero, suc, ◌+◌, ◌-◌, ◌≤◌, ◌<◌}
use native.Mathlib.Omega.{arith}
use lib.ListN.{length, get_or, set, length-set}
use lib.Seq.{get_or-set_same, get_or-set_other}
use Rattle.octets.proofs.Every.{and_second}
use Rattle.dates.specs.Notice.{is_days}
use Rattle.forms.specs.Identifiers.{is_server_id}
use Rattle.tenants.specs.declared.Held.{Held}
use Rattle.tenants.specs.declared.Setting.{Setting}
use Rattle.tenants.specs.Cells.{entered, withdrawn}
use Rattle.tenants.specs.Rules.{Change, enters, withdraws, sets, nothing, refuses, is_tenant, names_none}
use Rattle.tenants.specs.Calls.{Call, change_of}
use Rattle.tenants.specs.Alone.{with_days}
use Rattle.tenants.specs.Together.{
  in_book,
  BookRecord,
  Book,
  names,
  full_name,
  cells_of,
  no_setting,
  own_of,
  changed,
  is_setting,
  is_principal,
  quota_sum,
  is_record,
  is_good,
}
use Rattle.tenants.proofs.Ordered.{Sorted, equal_or_not, entered_cases, withdrawn_cases, sorted_entered, sorted_withdrawn}
use Rattle.tenants.proofs.OwnCells.{own_sorted, cells_entered, cells_entered_other, cells_withdrawn, cells_withdrawn_other}
use Rattle.tenants.proofs.Ranges.{tenant_below, name_below, held_below, record_is}
use Rattle.tenants.proofs.Allowed.{has_room, Allowed, allowed}
use Rattle.tenants.proofs.Goodness.{Good, EachRecord, good_facts, facts_good}
use Rattle.tenants.proofs.Kept.{kept_of, own_kept, field_kept, quota_stays}
use Rattle.tenants.proofs.Room.{few_records}
use Rattle.tenants.proofs.Counts.{entered-within, withdrawn-most}

each-entered : (c : BookRecord) (records : List BookRecord) → is_record c ≡ true → EachRecord records → EachRecord (entered c records)
unfolding entered
each-entered c [] is each = (is, tt)
each-entered c (d ∷ records) is each =
    entered_cases c d records EachRecord (λ _. (is, each)) (λ _. (is, each.1)) (λ _. (each.0, each-entered c records is each.1))

each-withdrawn : (name : ℕ) (records : List BookRecord) → EachRecord records → EachRecord (withdrawn name records)
unfolding withdrawn
each-withdrawn name [] each = tt
each-withdrawn name (d ∷ records) each =
    withdrawn_cases name d records EachRecord (λ _. each.1) (λ _. (each.0, each-withdrawn name records each.1))

abbrev quota_of : ℕ → Book → ℕ
quota_of t b = (get_or b.settings t no_setting).quota

module _ (t : ℕ) (b : Book) (good : Good b) where
  -- with these records for its own
  good_records : (records : List BookRecord) → Sorted records → EachRecord records
      → ((u : ℕ) → u < 16 → length (cells_of u records) ≤ quota_of u b)
      → Good (record { settings = b.settings; records = records })
  good_records records sorted each within = record {
    sixteen = good.sixteen;
    each_setting = good.each_setting;
    named = good.named;
    sum = good.sum;
    count = few_records b.settings records good.sixteen good.sum each within;
    sorted = sorted;
    each_record = each;
    within = within;
  }

  good_entered : (cell : Held) → Allowed t (own_of t b) (enters cell) → Good (changed t (enters cell) b)
  unfolding own_of
  good_entered cell (tenant, (held, (none, has))) =
      good_records (entered new b.records) (sorted_entered new b.records good.sorted)
      (each-entered new b.records (record_is t cell tenant held) good.each_record)
      within
    where
      new : BookRecord
      new = in_book t cell

      room : has_room cell (kept_of t b) ≡ true
      room = sym (ap (has_room cell) (own_kept t b none)) ∙ has

      within : (u : ℕ) → u < 16 → length (cells_of u (entered new b.records)) ≤ quota_of u b
      within u h =
          equal_or_not u t
          (λ it. rw (it, cells_entered t cell (held_below cell held) b.records good.sorted)
          (entered-within cell (cells_of t b.records) (quota_of t b)
          (own_sorted t b.records good.sorted) (good.within t (tenant_below t tenant)) room))
          (λ apart. rw (cells_entered_other t cell (held_below cell held) u apart b.records) (good.within u h))

  good_withdrawn : (name : ℕ) → name < names → Good (changed t (withdraws name) b)
  good_withdrawn name small =
      good_records (withdrawn (full_name t name) b.records)
      (sorted_withdrawn (full_name t name) b.records good.sorted)
      (each-withdrawn (full_name t name) b.records good.each_record)
      within
    where
      within : (u : ℕ) → u < 16 → length (cells_of u (withdrawn (full_name t name) b.records)) ≤ quota_of u b
      within u h =
          equal_or_not u t
          (λ it. let held : length (cells_of t b.records) ≤ quota_of t b = good.within t (rw it at h) in
          rw (it, cells_withdrawn t name small b.records) (omega (arith, withdrawn-most name (cells_of t b.records))))
          (λ apart. rw (cells_withdrawn_other t name small u apart b.records) (good.within u h))

-- new warning days for tenant t
module _ (days : ℕ) where
  abbrev days_set_lem : List Setting → ℕ → List Setting
  days_set_lem settings t = set settings t (with_days days (get_or settings t no_setting))

  sum_kept : (settings : List Setting) (t : ℕ) → quota_sum (days_set_lem settings t) ≡ quota_sum settings
  unfolding quota_sum
  sum_kept [] t = refl
  sum_kept (s ∷ settings) zero = refl
  sum_kept (s ∷ settings) (suc t) = ap (λ (n : ℕ). s.quota + n) (sum_kept settings t)

  -- whom a tenant may name goes by quotas and principals
  named_kept : (settings : List Setting) (t u : ℕ) → is_principal settings u (get_or settings u no_setting) ≡ true
      → is_principal (days_set_lem settings t) u (get_or (days_set_lem settings t) u no_setting) ≡ true
  unfolding is_principal names_none
  named_kept settings t u right =
      let principal : (v : ℕ) → (get_or (days_set_lem settings t) v no_setting).principal ≡ (get_or settings v no_setting).principal
      = field_kept days (λ (s : Setting). s.principal) (λ s. refl) settings t in
      rw (principal u, principal ((get_or settings u no_setting).principal - 1), field_kept days (λ (s : Setting). s.quota) (λ s. refl) settings t u) right

  setting_kept : (setting : Setting) → is_days days ≡ true → is_setting setting ≡ true → is_setting (with_days days setting) ≡ true
  unfolding is_setting
  setting_kept setting right is = rw (right, and_second (is_days setting.days) (is_server_id setting.server) is)

  good_days : (t : ℕ) (b : Book) → Good b → is_tenant t ≡ true → is_days days ≡ true → Good (changed t (sets days) b)
  good_days t b good tenant right = record {
    sixteen = length-set b.settings t (with_days days (get_or b.settings t no_setting)) ∙ good.sixteen;
    each_setting = each;
    named = λ u h. named_kept b.settings t u (good.named u h);
    sum = rw (sum_kept b.settings t) good.sum;
    count = good.count;
    sorted = good.sorted;
    each_record = good.each_record;
    within = λ u h. rw (quota_stays t b u (sets days)) (good.within u h);
  }
    where
      each : (u : ℕ) → u < 16 → is_setting (get_or (days_set_lem b.settings t) u no_setting) ≡ true
      each u h =
          let sixteen : length b.settings ≡ 16 = good.sixteen in
          let new : Setting = with_days days (get_or b.settings t no_setting) in
          equal_or_not u t
          (λ it. let there : t < length b.settings = omega (arith, tenant_below t tenant) in
          rw (it, get_or-set_same b.settings t new no_setting there)
          (setting_kept (get_or b.settings t no_setting) right (good.each_setting t (tenant_below t tenant))))
          (λ apart. rw (get_or-set_other b.settings t u new no_setting apart) (good.each_setting u h))

good_changed : (t : ℕ) (b : Book) (change : Change) → Good b → Allowed t (own_of t b) change → Good (changed t change b)
good_changed t b (enters cell) good ok = good_entered t b good cell ok
good_changed t b (withdraws name) good ok = good_withdrawn t b good name (name_below name ok.1.0)
good_changed t b (sets days) good ok = good_days days t b good ok.0 ok.1
good_changed t b nothing good ok = good
good_changed t b (refuses r) good ok = good

-- whatever a tenant calls, a good book is good afterwards
pub good_call : (t : ℕ) (call : Call) (b : Book) → Good b → Good (changed t (change_of t call (own_of t b)) b)
good_call t call b good = good_changed t b (change_of t call (own_of t b)) good (allowed t (own_of t b) call)

pub good_after : (t : ℕ) (call : Call) (b : Book) → is_good b ≡ true → is_good (changed t (change_of t call (own_of t b)) b) ≡ true
good_after t call b good = facts_good (changed t (change_of t call (own_of t b)) b) (good_call t call b (good_facts b good))
