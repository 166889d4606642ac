-- A full name's place among records in order: those before the name, its own if it is held, and those after.
-- Assumes nothing.
use mathlib.Core.Path.{◌≡◌, refl, sym, ap, ◌∙◌}
use mathlib.Core.Bool.{cond}
use mathlib.Core.List.{List, [], ◌∷◌, ◌++◌}
use mathlib.Core.Option.{none, some}
use Prim.Native.Nat.{ℕ, suc, ◌≤◌, ◌<◌}
use native.Mathlib.Omega.{arith}
use borrow.Author.Tests.{lt-ltb, le-ltb}
use lib.Dec.{ltb}
use lib.ListN.{length}
use Rattle.octets.proofs.Every.{either}
use Rattle.tenants.specs.Together.{BookRecord, full}
use Rattle.tenants.specs.Cells.{cell_of}
use Rattle.tenants.specs.Rules.{is_some}
use Rattle.tenants.proofs.Ordered.{Above, Below, Sorted, Stands, before, same, behind, stands, above_lower, found_here, found_later, absent_above}
use Rattle.records.specs.declared.finding.Found.{Found}
use Rattle.records.specs.declared.finding.Found.TheVariants.{At, Absent}

-- how many records come before a full name
unfoldable pub place_of : ℕ → List BookRecord → ℕ
place_of name [] = 0
place_of name (r ∷ records) = cond (ltb (full r) name) (suc (place_of name records)) 0

-- where its cell stands, or where it would go
unfoldable pub found_in : ℕ → List BookRecord → Found
found_in name records = cond (is_some (cell_of name records)) (At (place_of name records)) (Absent (place_of name records))

-- the records around record i, which has the full name
pub record Here (full : ℕ) (records : List BookRecord) (i : ℕ) : Type 0 where
  pub front : List BookRecord
  pub it : BookRecord
  pub back : List BookRecord
  pub whole : records ≡ front ++ (it ∷ back)
  pub place : length front ≡ i
  pub name : it.name ≡ full
  pub below : Below full front
  pub above : Above full back
  pub held : cell_of full records ≡ some it

-- the records before place i, where the full name would go, and those from there on
pub record Gone (full : ℕ) (records : List BookRecord) (i : ℕ) : Type 0 where
  pub front : List BookRecord
  pub back : List BookRecord
  pub whole : records ≡ front ++ back
  pub place : length front ≡ i
  pub below : Below full front
  pub above : Above full back
  pub absent : cell_of full records ≡ none

module _ (full : ℕ) (r : BookRecord) (records : List BookRecord) where
  pub place_here : full ≤ r.name → place_of full (r ∷ records) ≡ 0
  unfolding place_of
  place_here high = rw (le-ltb r.name full high)

  pub place_later : r.name < full → place_of full (r ∷ records) ≡ suc (place_of full records)
  unfolding place_of
  place_later low = rw (lt-ltb r.name full low)

  here_later : (i : ℕ) → r.name < full → Here full records i → Here full (r ∷ records) (suc i)
  here_later i low h =
      record {
        front = r ∷ h.front;
        it = h.it;
        back = h.back;
        whole = ap (λ (l : List BookRecord). r ∷ l) h.whole;
        place = ap suc h.place;
        name = h.name;
        below = (low, h.below);
        above = h.above;
        held = found_later full r records (λ e. omega arith) ∙ h.held;
      }

  gone_later : (i : ℕ) → r.name < full → Gone full records i → Gone full (r ∷ records) (suc i)
  gone_later i low h =
      record {
        front = r ∷ h.front;
        back = h.back;
        whole = ap (λ (l : List BookRecord). r ∷ l) h.whole;
        place = ap suc h.place;
        below = (low, h.below);
        above = h.above;
        absent = found_later full r records (λ e. omega arith) ∙ h.absent;
      }

-- the answer's own split
abbrev Told : ℕ → List BookRecord → Found → Type 0
Told full records (At i) = Here full records i
Told full records (Absent i) = Gone full records i

-- the answer for the list with a lower record in front
abbrev later : Found → Found
later (At i) = At (suc i)
later (Absent i) = Absent (suc i)

module _ (full : ℕ) where
  told_later : (r : BookRecord) (records : List BookRecord) (f : Found) → r.name < full → Told full records f → Told full (r ∷ records) (later f)
  told_later r records (At i) low h = here_later full r records i low h
  told_later r records (Absent i) low h = gone_later full r records i low h

  module _ (r : BookRecord) (records : List BookRecord) where
    found_before : full < r.name → Above full records → found_in full (r ∷ records) ≡ Absent 0
    unfolding found_in
    found_before m above = rw (absent_above full (r ∷ records) (m, above), place_here full r records (omega arith))

    found-same : full ≡ r.name → found_in full (r ∷ records) ≡ At 0
    unfolding found_in
    found-same m = rw (found_here full r records m, place_here full r records (omega arith))

    found-behind : r.name < full → found_in full (r ∷ records) ≡ later (found_in full records)
    unfolding found_in
    found-behind m =
        rw (found_later full r records (λ e. omega arith), place_later full r records m)
        (either (is_some (cell_of full records)) (λ held. rw held refl) (λ absent. rw absent refl))

  told : (records : List BookRecord) → Sorted records → Told full records (found_in full records)
  unfolding found_in cell_of place_of
  told [] sorted = record { front = []; back = []; whole = refl; place = refl; below = tt; above = tt; absent = refl }
  told (r ∷ records) sorted = go (stands full r.name) (told records sorted.1)
    where
      go : Stands full r.name → Told full records (found_in full records) → Told full (r ∷ records) (found_in full (r ∷ records))
      go (before m) ih =
          let above = above_lower full r.name records (omega arith) sorted.0 in
          rw (found_before r records m above)
          (record {
            front = [];
            back = r ∷ records;
            whole = refl;
            place = refl;
            below = tt;
            above = (m, above);
            absent = absent_above full (r ∷ records) (m, above);
          })
      go (same m) ih =
          rw (found-same r records m)
          (record {
            front = [];
            it = r;
            back = records;
            whole = refl;
            place = refl;
            name = sym m;
            below = tt;
            above = above_lower full r.name records (omega arith) sorted.0;
            held = found_here full r records m;
          })
      go (behind m) ih = rw (found-behind r records m) (told_later r records (found_in full records) m ih)

  module _ (records : List BookRecord) (i : ℕ) (sorted : Sorted records) where
    -- what `At i` tells
    pub found_at : found_in full records ≡ At i → Here full records i
    found_at e = rw e at (told records sorted)

    -- what `Absent i` tells
    pub found-absent : found_in full records ≡ Absent i → Gone full records i
    found-absent e = rw e at (told records sorted)
