-- That no tenant holds more than its quota, said of each tenant by its number.
-- Assumes nothing.
use mathlib.Core.Path.{◌≡◌, refl}
use mathlib.Core.Bool.{true}
use mathlib.Core.List.{List}
use Prim.Native.Nat.{ℕ, zero, suc, ◌+◌, ◌≤◌, ◌<◌}
use native.Mathlib.Omega.{arith}
use borrow.Author.Tests.{le-leb, leb-true, eqb-true, eqb-false}
use lib.Dec.{leb, eqb}
use lib.ListN.{length}
use Rattle.octets.specs.Places.{number_at}
use Rattle.octets.proofs.Every.{and_first, and_second, either}
use Rattle.tenants.specs.Together.{BookRecord, cells_of, within_quotas}
use Rattle.layout.specs.Layout.{setting_place, setting_at, each_from}

module _ (s : List ℕ) (records : List BookRecord) where
  -- tenant u's cells are no more than its quota
  abbrev pub Kept : ℕ → Type 0
  Kept u = length (cells_of u records) ≤ number_at 2 s (setting_place u)

  pub within_kept : (t n : ℕ) → within_quotas t (each_from (setting_at s) t n) records ≡ true → (u : ℕ) → t ≤ u → u < t + n → Kept u
  unfolding within_quotas each_from setting_at
  within_kept t zero all u low high = absurd (omega arith)
  within_kept t (suc n) all u low high =
      let first = leb (length (cells_of t records)) (number_at 2 s (setting_place t)) in
      let others = within_quotas (suc t) (each_from (setting_at s) (suc t) n) records in
      either (eqb u t)
      (λ same. rw (eqb-true u t same) (leb-true _ _ (and_first first others all)))
      (λ other. let apart : u ≡ t → ⊥ = eqb-false u t other in
      within_kept (suc t) n (and_second first others all) u (omega arith) (omega arith))

  pub kept_within : (t n : ℕ) → ((u : ℕ) → t ≤ u → u < t + n → Kept u) → within_quotas t (each_from (setting_at s) t n) records ≡ true
  unfolding within_quotas each_from setting_at
  kept_within t zero kept = refl
  kept_within t (suc n) kept =
      rw (
        le-leb (length (cells_of t records)) (number_at 2 s (setting_place t)) (kept t (omega arith) (omega arith)),
        kept_within (suc t) n (λ u low high. kept u (omega arith) (omega arith)),
      )
