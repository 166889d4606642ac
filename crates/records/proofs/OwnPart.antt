-- A tenant's own part of the records: how many it has, where it begins and ends, and what names the records have there.
-- Assumes nothing.
use mathlib.Core.Path.{◌≡◌, refl, sym, ap, ap₂, ◌∙◌}
use mathlib.Core.Bool.{true}
use mathlib.Core.List.{List, [], ◌∷◌, ◌++◌, append_assoc}
use Prim.Native.Nat.{ℕ, suc, ◌+◌, ◌/◌, ◌%◌, ◌^◌, ◌≤◌, ◌<◌}
use native.Mathlib.Omega.{arith}
use borrow.Author.Tests.{ltb-true, ltb-false}
use lib.Dec.{ltb}
use lib.ListN.{length, get_or, take, drop, length-append}
use lib.Seq.{split_at, length-take-le}
use Rattle.octets.specs.Numbers.{digits, bytes_of}
use Rattle.octets.specs.Places.{number_at}
use Rattle.octets.proofs.Every.{either}
use Rattle.octets.proofs.Places.{number_written}
use Rattle.tenants.specs.Together.{BookRecord, names, full_name, tenant_of, name_of, own_of}
use Rattle.tenants.proofs.Ordered.{Above, Sorted}
use Rattle.layout.specs.Layout.{two, record_bytes_by, zeros, record_bytes, record_place, record_at, record_count, book_of, is_book, list_in}
use Rattle.judging.specs.Starts.{start_of, first_in, past_in}
use Rattle.layout.proofs.Indexed.{book_count}
use Rattle.layout.proofs.Promises.{good, written_so}
use Rattle.judging.proofs.StartPlaces.{start_next}
use Rattle.layout.proofs.Splits.{bytes_before, bytes_from, before_size, cut-bytes}
use Rattle.records.specs.Finding.{name_at, CountsHeld}
use Rattle.records.proofs.Found.{place_of, place_here, place_later}
use Rattle.records.proofs.Rewritten.{from_first}
use Rattle.records.proofs.Halving.{before_place, from_place, place_within, place_rises}

pub counts_held : CountsHeld
unfolding own_of
counts_held s t = start_next (list_in s t) (book_of s).records

none_below : (full k : ℕ) (records : List BookRecord) → full ≤ k → Above k records → place_of full records ≡ 0
unfolding place_of
none_below full k [] h above = refl
none_below full k (r ∷ records) h above = let a : k < r.name = above.0 in place_here full r records (omega arith)

-- among records in order a tenant's begin at the place of its lowest full name
start_is : (t : ℕ) (records : List BookRecord) → Sorted records → start_of t records ≡ place_of (full_name t 0) records
unfolding start_of place_of
start_is t [] sorted = refl
start_is t (r ∷ records) sorted =
    either (ltb (tenant_of r) t)
    (λ low.
    rw (low, place_later (full_name t 0) r records (omega (arith, ltb-true (tenant_of r) t low)))
    (omega (arith, start_is t records sorted.1)))
    (λ high.
    let up : full_name t 0 ≤ r.name = omega (arith, ltb-false (tenant_of r) t high) in
    rw (high, place_here (full_name t 0) r records up)
    (omega (arith, start_is t records sorted.1, none_below (full_name t 0) r.name records up sorted.0)))

-- the name of a record, read where its bytes stand
name_read : (r : BookRecord) (front back : List ℕ) {s : List ℕ} {at : ℕ} → s ≡ front ++ (record_bytes r ++ back) → length front ≡ at
    → number_at 8 s (at + 1) ≡ name_of r
name_read r front back {s} {at} e place =
    ap₂ (number_at 8) (e ∙ cut) start ∙ number_written 8 r.name (front ++ (tenant ∷ [])) after
  where
    tenant : ℕ
    tenant = r.name / 256 ^ 8 % 256

    after : List ℕ
    after = (bytes_of 2 r.edition ++ (bytes_of 5 r.key1 ++ (bytes_of 5 r.key2 ++ (zeros 3 ++ bytes_of 4 r.last)))) ++ back

    cut : front ++ (record_bytes r ++ back) ≡ (front ++ (tenant ∷ [])) ++ (bytes_of 8 r.name ++ after)
    cut = unfold record_bytes_by digits in simp append_assoc

    start : at + 1 ≡ length (front ++ (tenant ∷ []))
    start = simp length-append (omega arith)

module _ (s : List ℕ) (undamaged : is_book s ≡ true) where
  abbrev records : List BookRecord
  records = (book_of s).records

  name_is : (i : ℕ) → i < record_count s → name_at s i ≡ name_of (get_or records i (record_at s i))
  name_is i inside =
      let within : i < length records = omega (arith, book_count s) in
      let front : List BookRecord = take i records in
      let r : BookRecord = get_or records i (record_at s i) in
      let back : List BookRecord = drop (suc i) records in
      let n : ℕ = length records in
      name_read r (bytes_before two n (book_of s).settings front) (bytes_from two n back)
      (sym (written_so s undamaged)
      ∙ cut-bytes two (book_of s) front (r ∷ back) (split_at records i (record_at s i) within)
      ∙ ap (λ (l : List ℕ). bytes_before two n (book_of s).settings front ++ l) (from_first n r back))
      (before_size two n (book_of s).settings front (good s undamaged).sixteen
      ∙ ap record_place (length-take-le i records (omega arith)))

  module _ (t : ℕ) where
    first-is : first_in s t ≡ place_of (full_name t 0) records
    first-is = start_is t records (good s undamaged).sorted

    past_is : past_in s t ≡ place_of (full_name (suc t) 0) records
    past_is = start_is (suc t) records (good s undamaged).sorted

    pub past-within : past_in s t ≤ record_count s
    past-within = omega (arith, past_is, place_within (full_name (suc t) 0) records, book_count s)

    -- each record there has the tenant's full name of the name at it
    pub own_name : (i : ℕ) → first_in s t ≤ i → i < past_in s t → (get_or records i (record_at s i)).name ≡ full_name t (name_at s i)
    own_name i from upto =
        let inside : i < record_count s = omega (arith, past-within) in
        omega (
          arith,
          name_is i inside,
          from_place (full_name t 0) (record_at s i) records i (good s undamaged).sorted (omega (arith, book_count s)) (omega (arith, first-is)),
          before_place (full_name (suc t) 0) (record_at s i) records i (omega (arith, book_count s)) (omega (arith, past_is)),
        )

    -- and the records after are above each of its full names
    pub past-above : (i : ℕ) → i < record_count s → past_in s t ≤ i → full_name (suc t) 0 ≤ (get_or records i (record_at s i)).name
    past-above i inside past =
        from_place (full_name (suc t) 0) (record_at s i) records i (good s undamaged).sorted (omega (arith, book_count s)) (omega (arith, past_is))

    -- the place of its name is there, or where they end
    module _ (name : ℕ) where
      pub place-from : first_in s t ≤ place_of (full_name t name) records
      place-from = omega (arith, first-is, place_rises (full_name t 0) (full_name t name) records (omega arith))

      pub place-upto : name < names → place_of (full_name t name) records ≤ past_in s t
      place-upto small = omega (arith, past_is, place_rises (full_name t name) (full_name (suc t) 0) records (omega arith))
