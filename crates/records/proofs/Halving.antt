-- The place of a full name among records in order: how it and one record's name bound each other, and whether the name is held there.
-- Assumes nothing.
use mathlib.Core.Path.{◌≡◌, refl, sym}
use mathlib.Core.Bool.{◌&&◌}
use mathlib.Core.List.{List, [], ◌∷◌}
use Prim.Native.Nat.{ℕ, zero, suc, ◌≤◌, ◌<◌, suc-le-suc}
use native.Mathlib.Nat.{le_of_suc-le-suc, not-suc-le-zero}
use native.Mathlib.Omega.{arith}
use borrow.Author.Tests.{ltb-true, ltb-false, lt-ltb, eq-eqb, ne_eqb}
use lib.Dec.{ltb, eqb}
use lib.ListN.{length, get_or}
use Rattle.octets.proofs.Every.{either, same_tests}
use Rattle.tenants.specs.Cells.{cell_of}
use Rattle.tenants.specs.Rules.{is_some}
use Rattle.tenants.specs.Together.{BookRecord}
use Rattle.tenants.proofs.Ordered.{Above, Sorted, Stands, before, same, behind, stands, above_lower, found_here, found_later, absent_above}
use Rattle.records.proofs.Found.{place_of, place_here, place_later}

above_at : (k : ℕ) (records : List BookRecord) (d : BookRecord) (i : ℕ) → Above k records → i < length records → k < (get_or records i d).name
above_at k [] d i above h = absurd (not-suc-le-zero h)
above_at k (r ∷ records) d zero above h = above.0
above_at k (r ∷ records) d (suc i) above h = above_at k records d i above.1 (le_of_suc-le-suc h)

module _ (full : ℕ) (d : BookRecord) where
  -- where record i comes before the name, the place is after it
  pub place_after_lem : (records : List BookRecord) (i : ℕ) → Sorted records → i < length records → (get_or records i d).name < full → i < place_of full records
  place_after_lem [] i sorted h low = absurd (not-suc-le-zero h)
  place_after_lem (r ∷ records) zero sorted h low = rw (place_later full r records low) (omega arith)
  place_after_lem (r ∷ records) (suc i) sorted h low =
      let inside : i < length records = le_of_suc-le-suc h in
      let first : r.name < (get_or records i d).name = above_at r.name records d i sorted.0 inside in
      rw (place_later full r records (omega arith)) (suc-le-suc (place_after_lem records i sorted.1 inside low))

  -- and where it does not, the place is not after it
  pub place_up_to : (records : List BookRecord) (i : ℕ) → i < length records → full ≤ (get_or records i d).name → place_of full records ≤ i
  place_up_to [] i h high = absurd (not-suc-le-zero h)
  place_up_to (r ∷ records) zero h high = rw (place_here full r records high) (omega arith)
  place_up_to (r ∷ records) (suc i) h high =
      either (ltb r.name full)
      (λ low. rw (place_later full r records (ltb-true _ _ low)) (suc-le-suc (place_up_to records i (le_of_suc-le-suc h) high)))
      (λ up. rw (place_here full r records (ltb-false _ _ up)) (omega arith))

  -- and so a record before the place comes before the name
  pub before_place : (records : List BookRecord) (i : ℕ) → i < length records → i < place_of full records → (get_or records i d).name < full
  before_place records i inside earlier =
      either (ltb (get_or records i d).name full) (λ low. ltb-true _ _ low)
      (λ high. let up_to_lem = place_up_to records i inside (ltb-false _ _ high) in omega arith)

  -- and one from there on does not
  pub from_place : (records : List BookRecord) (i : ℕ) → Sorted records → i < length records → place_of full records ≤ i
      → full ≤ (get_or records i d).name
  from_place records i sorted inside from =
      either (ltb (get_or records i d).name full)
      (λ low. let after = place_after_lem records i sorted inside (ltb-true _ _ low) in omega arith)
      (λ high. ltb-false _ _ high)

  -- the name is held where the record at its place has it
  pub held_there : (records : List BookRecord) → Sorted records
      → is_some (cell_of full records) ≡ (ltb (place_of full records) (length records) && eqb (get_or records (place_of full records) d).name full)
  unfolding place_of cell_of
  held_there [] sorted = refl
  held_there (r ∷ records) sorted = go (stands full r.name) (held_there records sorted.1)
    where
      go : Stands full r.name
          → is_some (cell_of full records) ≡ (ltb (place_of full records) (length records) && eqb (get_or records (place_of full records) d).name full)
          → is_some (cell_of full (r ∷ records))
          ≡ (ltb (place_of full (r ∷ records)) (length (r ∷ records)) && eqb (get_or (r ∷ records) (place_of full (r ∷ records)) d).name full)
      go (before m) ih =
          rw (
            absent_above full (r ∷ records) (m, above_lower full r.name records (omega arith) sorted.0),
            place_here full r records (omega arith),
            ne_eqb r.name full (λ e. omega arith),
            lt-ltb 0 (suc (length records)) (omega arith),
          ) refl
      go (same m) ih =
          rw (
            found_here full r records m,
            place_here full r records (omega arith),
            eq-eqb r.name full (sym m),
            lt-ltb 0 (suc (length records)) (omega arith),
          ) refl
      go (behind m) ih =
          rw (found_later full r records (λ e. omega arith), place_later full r records m, one_more (place_of full records) (length records)) ih
        where
          one_more : (p n : ℕ) → ltb (suc p) (suc n) ≡ ltb p n
          one_more p n =
              same_tests (ltb (suc p) (suc n)) (ltb p n)
              (λ e. lt-ltb p n (le_of_suc-le-suc (ltb-true _ _ e)))
              (λ e. lt-ltb (suc p) (suc n) (suc-le-suc (ltb-true _ _ e)))

pub place_within : (full : ℕ) (records : List BookRecord) → place_of full records ≤ length records
unfolding place_of
place_within full [] = omega arith
place_within full (r ∷ records) =
    either (ltb r.name full)
    (λ low. rw low (suc-le-suc (place_within full records)))
    (λ up. rw up (omega arith))

-- a higher name has no lower place
pub place_rises : (low high : ℕ) (records : List BookRecord) → low ≤ high → place_of low records ≤ place_of high records
unfolding place_of
place_rises low high [] h = omega arith
place_rises low high (r ∷ records) h =
    either (ltb r.name low)
    (λ below. rw (below, place_later high r records (omega (arith, ltb-true r.name low below))) (suc-le-suc (place_rises low high records h)))
    (λ up. rw up (omega arith))
