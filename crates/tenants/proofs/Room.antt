-- Where a tenant's own quota has room, the book has.
-- Assumes nothing.
use mathlib.Core.Path.{◌≡◌, refl, ap, ◌∙◌}
use mathlib.Core.List.{List, [], ◌∷◌}
use Prim.Native.Nat.{ℕ, zero, suc, ◌+◌, ◌≤◌, ◌<◌, zero-le}
use native.Mathlib.Nat.{add-zero, zero-add, add-suc, suc-add}
use native.Mathlib.Omega.{arith}
use lib.ListN.{length, get_or}
use Rattle.tenants.specs.declared.Setting.{Setting}
use Rattle.tenants.specs.Together.{BookRecord, Book, tenant_of, cells_of, no_setting, quota_sum}
use Rattle.tenants.proofs.Ordered.{equal_or_not}
use Rattle.tenants.proofs.OwnCells.{cells_mine, cells_not}
use Rattle.tenants.proofs.Ranges.{record_below}
use Rattle.tenants.proofs.Goodness.{Good, EachRecord, Within, within_first, within_rest}

-- how many of the records the tenants of these settings hold, from tenant t on
unfoldable held_from : ℕ → List Setting → List BookRecord → ℕ
held_from t [] records = 0
held_from t (s ∷ settings) records = length (cells_of t records) + held_from (suc t) settings records

none_held : (t : ℕ) (settings : List Setting) → held_from t settings [] ≡ 0
unfolding held_from cells_of
none_held t [] = refl
none_held t (s ∷ settings) = omega (arith, none_held (suc t) settings)

-- one record more, which is tenant x's
module _ (r : BookRecord) (records : List BookRecord) (x : ℕ)
    (own : length (cells_of x (r ∷ records)) ≡ suc (length (cells_of x records)))
    (other : (u : ℕ) → (x ≡ u → ⊥) → length (cells_of u (r ∷ records)) ≡ length (cells_of u records)) where
  held_before : (t : ℕ) (settings : List Setting) → x < t → held_from t settings (r ∷ records) ≡ held_from t settings records
  unfolding held_from
  held_before t [] h = refl
  held_before t (s ∷ settings) h = omega (arith, other t (omega arith), held_before (suc t) settings (omega arith))

  held_among : (t : ℕ) (settings : List Setting) → t ≤ x → x < t + length settings
      → held_from t settings (r ∷ records) ≡ suc (held_from t settings records)
  unfolding held_from
  held_among t [] low high = absurd (omega arith)
  held_among t (s ∷ settings) low high =
      equal_or_not x t
      (λ (same : x ≡ t). omega (arith, rw same at own, held_before (suc t) settings (omega arith)))
      (λ (apart : x ≡ t → ⊥). omega (arith, other t apart, held_among (suc t) settings (omega arith) (omega arith)))

-- sixteen tenants hold all the records
all_held : (settings : List Setting) (records : List BookRecord) → length settings ≡ 16 → EachRecord records → held_from 0 settings records ≡ length records
all_held settings [] sixteen each = none_held 0 settings
all_held settings (r ∷ records) sixteen each =
    held_among r records (tenant_of r)
    (ap length (cells_mine (tenant_of r) r records refl))
    (λ u apart. ap length (cells_not u r records apart))
    0 settings zero-le (rw (zero-add, sixteen) (record_below r each.0))
    ∙ ap suc (all_held settings records sixteen each.1)

module _ (records : List BookRecord) where
  -- each tenant is within its quota, so all are within the sum
  within-sum : (t : ℕ) (settings : List Setting) → Within t settings records → held_from t settings records ≤ quota_sum settings
  unfolding held_from quota_sum
  within-sum t [] within = omega arith
  within-sum t (s ∷ settings) within =
      omega (arith, within_first t s settings records within, within-sum (suc t) settings (within_rest t s settings records within))

  -- and below it where one has room
  below_sum : (t : ℕ) (settings : List Setting) → Within t settings records
      → (i : ℕ) → i < length settings → length (cells_of (t + i) records) < (get_or settings i no_setting).quota
      → held_from t settings records < quota_sum settings
  unfolding held_from quota_sum
  below_sum t [] within i h room = absurd (omega arith)
  below_sum t (s ∷ settings) within zero h room =
      let first : length (cells_of t records) < s.quota = rw add-zero at room in
      omega (arith, within-sum (suc t) settings (within_rest t s settings records within))
  below_sum t (s ∷ settings) within (suc i) h room =
      omega (
        arith,
        within_first t s settings records within,
        below_sum (suc t) settings (within_rest t s settings records within) i (omega arith) (rw (suc-add, ← add-suc) room),
      )

-- quotas that sum to at most 512 leave at most 512 records
pub few_records : (settings : List Setting) (records : List BookRecord) → length settings ≡ 16 → quota_sum settings ≤ 512 → EachRecord records
    → ((t : ℕ) → t < 16 → length (cells_of t records) ≤ (get_or settings t no_setting).quota)
    → length records ≤ 512
few_records settings records sixteen sum each within =
    omega (arith, all_held settings records sixteen each, within-sum records 0 settings (λ t h. rw zero-add (within t (omega arith))))

-- a tenant with room in its quota has a place in the book
pub has_place : (b : Book) → Good b → (t : ℕ) → t < 16 → length (cells_of t b.records) < (get_or b.settings t no_setting).quota
    → length b.records < 512
has_place b good t h room =
    let sixteen : length b.settings ≡ 16 = good.sixteen in
    omega (
      arith,
      good.sum,
      all_held b.settings b.records sixteen good.each_record,
      below_sum b.records 0 b.settings (λ t h. rw zero-add (good.within t (omega arith))) t (omega arith) (rw zero-add room),
    )
