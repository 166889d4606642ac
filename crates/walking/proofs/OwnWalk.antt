-- The walk through a tenant's records answers as all its cells do, since the records stand in order.
-- Assumes nothing.
use mathlib.Core.Path.{◌≡◌, refl, sym, ap, ap₂, ◌∙◌}
use mathlib.Core.Bool.{true}
use mathlib.Core.List.{List, [], ◌∷◌}
use Prim.Native.Nat.{ℕ, zero, suc, ◌+◌, ◌-◌, ◌*◌, ◌≤◌, ◌<◌}
use native.Mathlib.Omega.{arith}
use borrow.Author.Tests.{lt-ltb, le-ltb}
use lib.Dec.{ltb}
use lib.ListN.{length}
use Rattle.octets.proofs.Every.{either}
use Rattle.tenants.specs.declared.Held.{Held}
use Rattle.tenants.specs.Cells.{holds_any}
use Rattle.tenants.specs.Together.{BookRecord, names, tenant_of, name_of, cell_in, cells_of, own_of}
use Rattle.tenants.proofs.Ordered.{Above, Sorted, Stands, before, same, behind, stands}
use Rattle.tenants.proofs.OwnCells.{cells_mine, cells_not, own_sorted}
use Rattle.tenants.proofs.Producers.{holds_first, holds_rest, holds_none}
use Rattle.layout.specs.Layout.{book_of_by, used_length, record_at, record_count, each_from, book_of, is_book, list_in}
use Rattle.layout.proofs.Frame.{book_frame}
use Rattle.layout.proofs.Indexed.{book_count}
use Rattle.layout.proofs.Promises.{good}
use Rattle.judging.specs.Starts.{start_of, first_in, past_in}
use Rattle.judging.proofs.Judgements.{judged_says}
use Rattle.judging.proofs.StartPlaces.{start_next}
use Rattle.walking.specs.Walking.{producer_at, walked, any_among, WalksOwn}
use Rattle.walking.proofs.Stops.{stops_later, stops_there, goes_on, walked-within}

-- above a record of tenant t, or of a later one, none is of a tenant before t
none_before : (t k : ℕ) (records : List BookRecord) → t * names ≤ k → Above k records → start_of t records ≡ 0
unfolding start_of
none_before t k [] low above = refl
none_before t k (r ∷ records) low above =
    let h : k < r.name = above.0 in
    rw (le-ltb (tenant_of r) t (omega arith)) (omega (arith, none_before t k records low above.1))

-- and above one of a later tenant none is t's
none_own : (t k : ℕ) (records : List BookRecord) → suc t * names ≤ k → Above k records → cells_of t records ≡ []
unfolding cells_of
none_own t k [] low above = refl
none_own t k (r ∷ records) low above =
    let h : k < r.name = above.0 in
    cells_not t r records (λ e. omega arith) ∙ none_own t k records low above.1

start_within : (t : ℕ) (records : List BookRecord) → start_of t records ≤ length records
unfolding start_of
start_within t [] = omega arith
start_within t (r ∷ records) =
    either (ltb (tenant_of r) t)
    (λ low. rw low (omega (arith, start_within t records)))
    (λ high. rw high (omega (arith, start_within t records)))

module _ (s : List ℕ) (t producer : ℕ) where
  -- among records of which the first is record i, the walk through the tenant's answers as all its cells do
  abbrev Answers : ℕ → List BookRecord → Type 0
  Answers i records = walked s producer (i + start_of t records) (length (cells_of t records)) ≡ holds_any producer (cells_of t records)

  -- it does where the tenant's begin at record k, and are these cells
  of_cells : (i k : ℕ) (records : List BookRecord) (cells : List Held) → i + start_of t records ≡ k → cells_of t records ≡ cells
      → walked s producer k (length cells) ≡ holds_any producer cells → Answers i records
  of_cells i k records cells begins are answers =
      ap₂ (λ (j : ℕ) (l : List Held). walked s producer j (length l)) begins are ∙ answers ∙ sym (ap (holds_any producer) are)

  -- record i in front of the others
  module _ (i : ℕ) (records : List BookRecord) (sorted : Sorted (record_at s i ∷ records)) where
    abbrev first : BookRecord
    first = record_at s i

    of-one-before : tenant_of first < t → Answers (suc i) records → Answers i (first ∷ records)
    of-one-before low =
        of_cells i (suc i + start_of t records) (first ∷ records) (cells_of t records) begins (cells_not t first records (λ e. omega arith))
      where
        begins : i + start_of t (first ∷ records) ≡ suc i + start_of t records
        begins = unfold start_of in rw (lt-ltb (tenant_of first) t low) (omega arith)

    of-one-behind : t < tenant_of first → Answers i (first ∷ records)
    of-one-behind high = of_cells i (i + start_of t (first ∷ records)) (first ∷ records) [] refl none (unfold walked holds_any in refl)
      where
        none : cells_of t (first ∷ records) ≡ []
        none = cells_not t first records (λ e. omega arith) ∙ none_own t first.name records (omega arith) sorted.0

    module _ (mine : tenant_of first ≡ t) where
      its-cells : cells_of t (first ∷ records) ≡ cell_in first ∷ cells_of t records
      its-cells = cells_mine t first records mine

      none_there : start_of t records ≡ 0
      none_there = none_before t first.name records (omega arith) sorted.0

      begins-here : i + start_of t (first ∷ records) ≡ i
      begins-here = unfold start_of in rw (le-ltb (tenant_of first) t (omega arith)) (omega (arith, none_there))

      above : Above (name_of first) (cells_of t records)
      above = (rw its-cells at (own_sorted t (first ∷ records) sorted)).0

      -- the walk through its own, of which this is the first
      walks : Answers (suc i) records
          → walked s producer i (suc (length (cells_of t records))) ≡ holds_any producer (cell_in first ∷ cells_of t records)
      walks answers = go (stands producer (producer_at s i))
        where
          cells : List Held
          cells = cells_of t records

          go : Stands producer (producer_at s i) → walked s producer i (suc (length cells)) ≡ holds_any producer (cell_in first ∷ cells)
          go (before m) =
              stops_later s producer i (length cells) m
              ∙ sym (holds_rest producer (cell_in first) cells (λ e. omega arith) ∙ holds_none producer (name_of first) cells m above)
          go (same m) = stops_there s producer i (length cells) (sym m) ∙ sym (holds_first producer (cell_in first) cells (sym m))
          go (behind m) =
              let next : suc i + start_of t records ≡ suc i = omega (arith, none_there) in
              goes_on s producer i (length cells) m
              ∙ ap (λ (k : ℕ). walked s producer k (length cells)) (sym next)
              ∙ answers
              ∙ sym (holds_rest producer (cell_in first) cells (λ e. omega arith))

      of-one-own : Answers (suc i) records → Answers i (first ∷ records)
      of-one-own answers = of_cells i i (first ∷ records) (cell_in first ∷ cells_of t records) begins-here its-cells (walks answers)

  own_walk : (i n : ℕ) → Sorted (each_from (record_at s) i n) → Answers i (each_from (record_at s) i n)
  unfolding each_from cells_of walked holds_any
  own_walk i zero sorted = refl
  own_walk i (suc n) sorted = go (stands (tenant_of (record_at s i)) t) (own_walk (suc i) n sorted.1)
    where
      rest : List BookRecord
      rest = each_from (record_at s) (suc i) n

      go : Stands (tenant_of (record_at s i)) t → Answers (suc i) rest → Answers i (record_at s i ∷ rest)
      go (before m) = of-one-before i rest sorted m
      go (same m) = of-one-own i rest sorted m
      go (behind m) = λ _. of-one-behind i rest sorted m

  module _ (undamaged : is_book s ≡ true) where
    abbrev records : List BookRecord
    records = (book_of s).records

    past-within : used_length (past_in s t) ≤ length s
    past-within =
        let frame = book_frame s undamaged in
        omega (arith, start_within (suc t) records, book_count s, frame.size, frame.few)

    walks-records : walked s producer (first_in s t) (past_in s t - first_in s t) ≡ holds_any producer (cells_of t records)
    unfolding book_of_by
    walks-records =
        let many : past_in s t - first_in s t ≡ length (cells_of t records) = omega (arith, start_next t records) in
        let from : first_in s t ≡ 0 + first_in s t = omega arith in
        ap₂ (walked s producer) from many ∙ own_walk 0 (record_count s) (good s undamaged).sorted

pub walks_own : WalksOwn
unfolding own_of
walks_own s t producer r so =
    let list = list_in s t in
    let says = judged_says s list r so in
    ap₂ (λ (i j : ℕ). any_among s i j producer) says.1.0 says.1.1
    ∙ sym (walked-within s (first_in s list) (past_in s list) producer (past-within s list producer says.0))
    ∙ walks-records s list producer says.0
