-- The search on a book's bytes: one halving, where it ends, and what an undamaged book's records then have at that place.
-- Assumes nothing.
use mathlib.Core.Path.{◌≡◌, refl, sym, ap, ◌∙◌}
use mathlib.Core.Bool.{Bool, true, false, cond, ◌&&◌}
use mathlib.Core.List.{List}
use Prim.Native.Nat.{ℕ, zero, suc, ◌+◌, ◌-◌, ◌/◌, ◌≤◌, ◌<◌}
use native.Mathlib.Omega.{arith}
use borrow.Author.Tests.{le-leb, ltb-true, ltb-false, eqb-true, eqb-false, lt-ltb, le-ltb, eq-eqb, ne_eqb}
use lib.Dec.{ltb, eqb}
use lib.ListN.{length, get_or}
use Rattle.octets.specs.Numbers.{Below}
use Rattle.octets.proofs.Every.{either}
use Rattle.octets.proofs.Places.{number_at_below}
use Rattle.tenants.specs.Together.{names, full_name}
use Rattle.layout.specs.Layout.{record_count_by, used_length, record_at, record_count, book_of, is_book}
use Rattle.judging.specs.Starts.{first_in, past_in}
use Rattle.layout.proofs.Frame.{book_frame}
use Rattle.layout.proofs.Indexed.{book_count}
use Rattle.layout.proofs.Promises.{good}
use Rattle.records.specs.declared.finding.Found.TheVariants.{At, Absent}
use Rattle.records.specs.Finding.{name_at, halved, place_in, searched, searched_under}
use Rattle.records.proofs.Found.{place_of, found_in}
use Rattle.records.proofs.Halving.{place_after_lem, place_up_to, held_there}
use Rattle.records.proofs.OwnPart.{past-within, own_name, past-above, place-from, place-upto}

-- full names of one tenant are equal where the names are
own_named : (t n m : ℕ) → eqb n m ≡ eqb (full_name t n) (full_name t m)
own_named t n m =
    either (eqb n m) (λ e. e ∙ sym (eq-eqb (full_name t n) (full_name t m) (omega (arith, eqb-true n m e))))
    (λ e. e ∙ sym (ne_eqb (full_name t n) (full_name t m) (λ z. eqb-false n m e (omega arith))))

-- a used length of four bytes tells no more records than this
pub count_most : (s : List ℕ) → Below 256 s → record_count s ≤ 178956966
unfolding record_count_by
count_most s below = omega (arith, number_at_below 4 s 1 below)

module _ (at : ℕ → ℕ) (name : ℕ) where
  halved_done : (times low high : ℕ) → high ≤ low → halved at name times low high ≡ low
  unfolding halved
  halved_done zero low high done = refl
  halved_done (suc times) low high done = rw (le-ltb low high done)

  module _ (times low high : ℕ) (left : low < high) where
    halved-up : ltb (at ((low + high) / 2)) name ≡ true → halved at name (suc times) low high ≡ halved at name times ((low + high) / 2 + 1) high
    unfolding halved
    halved-up lower = rw (lt-ltb low high left, lower)

    halved-down : ltb (at ((low + high) / 2)) name ≡ false → halved at name (suc times) low high ≡ halved at name times low ((low + high) / 2)
    unfolding halved
    halved-down upper = rw (lt-ltb low high left, upper)

  -- it ends at the same place however many times more are allowed
  more_times : (times others low high : ℕ) → high - low ≤ times → high - low ≤ others
      → halved at name times low high ≡ halved at name others low high
  more_times zero others low high few fewer = halved_done 0 low high (omega arith) ∙ sym (halved_done others low high (omega arith))
  more_times (suc times) zero low high few fewer = halved_done (suc times) low high (omega arith) ∙ sym (halved_done 0 low high (omega arith))
  more_times (suc times) (suc others) low high few fewer =
      either (ltb low high)
      (λ yes.
      let left : low < high = ltb-true low high yes in
      either (ltb (at ((low + high) / 2)) name)
      (λ lower.
      halved-up times low high left lower
      ∙ more_times times others ((low + high) / 2 + 1) high (omega arith) (omega arith)
      ∙ sym (halved-up others low high left lower))
      (λ upper.
      halved-down times low high left upper
      ∙ more_times times others low ((low + high) / 2) (omega arith) (omega arith)
      ∙ sym (halved-down others low high left upper)))
      (λ no.
      let done : high ≤ low = ltb-false low high no in
      halved_done (suc times) low high done ∙ sym (halved_done (suc others) low high done))

-- what is left is from low, in four bytes, to high, no higher than past, and to halve it ends at the place
pub record Left (s : List ℕ) (first past name low high : ℕ) : Type 0 where
  pub low_fits : low < 4294967296
  pub most : high ≤ past
  pub ends : (times : ℕ) → high - low ≤ times → halved (name_at s) name times low high ≡ place_in s first past name

module _ (s : List ℕ) (first past name : ℕ) where
  pub all_left : first < 4294967296 → Left s first past name first past
  unfolding place_in
  all_left a = record {
    low_fits = a;
    most = omega arith;
    ends = λ times h. more_times (name_at s) name times (past - first) first past h (omega arith);
  }

  module _ (low high : ℕ) (so_far : Left s first past name low high) where
    pub left_up : low < high → high < 4294967296 → name_at s ((low + high) / 2) < name → Left s first past name ((low + high) / 2 + 1) high
    left_up left small lower = record {
      low_fits = omega arith;
      most = so_far.most;
      ends = λ times h.
          more_times (name_at s) name times (high - low) ((low + high) / 2 + 1) high h (omega arith)
          ∙ sym (halved-up (name_at s) name (high - low) low high left (lt-ltb _ _ lower))
          ∙ so_far.ends (suc (high - low)) (omega arith);
    }

    pub left_down : low < high → name ≤ name_at s ((low + high) / 2) → Left s first past name low ((low + high) / 2)
    left_down left upper = record {
      low_fits = so_far.low_fits;
      most = omega (arith, so_far.most);
      ends = λ times h.
          more_times (name_at s) name times (high - low) low ((low + high) / 2) h (omega arith)
          ∙ sym (halved-down (name_at s) name (high - low) low high left (le-ltb _ _ upper))
          ∙ so_far.ends (suc (high - low)) (omega arith);
    }

    pub none_left : high ≤ low → low ≡ place_in s first past name
    none_left done = sym (halved_done (name_at s) name 0 low high done) ∙ so_far.ends 0 (omega arith)

module _ (s : List ℕ) (undamaged : is_book s ≡ true) (t name : ℕ) (small : name < names) where
  -- the place of the tenant's name among the records
  abbrev place : ℕ
  place = place_of (full_name t name) (book_of s).records

  module _ (i : ℕ) (from : first_in s t ≤ i) (upto : i < past_in s t) where
    inside : i < length (book_of s).records
    inside = omega (arith, past-within s undamaged t, book_count s)

    turn_up : ltb (name_at s i) name ≡ true → i < place
    turn_up low =
        place_after_lem (full_name t name) (record_at s i) (book_of s).records i (good s undamaged).sorted inside
        (omega (arith, own_name s undamaged t i from upto, ltb-true (name_at s i) name low))

    turn-down : ltb (name_at s i) name ≡ false → place ≤ i
    turn-down high =
        place_up_to (full_name t name) (record_at s i) (book_of s).records i inside
        (omega (arith, own_name s undamaged t i from upto, ltb-false (name_at s i) name high))

  halved_there : (times low high : ℕ) → high - low ≤ times → first_in s t ≤ low → high ≤ past_in s t → low ≤ place → place ≤ high
      → halved (name_at s) name times low high ≡ place
  halved_there zero low high few least most up down = halved_done (name_at s) name 0 low high (omega arith) ∙ omega arith
  halved_there (suc times) low high few least most up down =
      either (ltb low high)
      (λ yes.
      let left : low < high = ltb-true low high yes in
      either (ltb (name_at s ((low + high) / 2)) name)
      (λ lower.
      let after = turn_up ((low + high) / 2) (omega arith) (omega arith) lower in
      halved-up (name_at s) name times low high left lower
      ∙ halved_there times ((low + high) / 2 + 1) high (omega arith) (omega arith) most (omega arith) down)
      (λ upper.
      let up_to_lem = turn-down ((low + high) / 2) (omega arith) (omega arith) upper in
      halved-down (name_at s) name times low high left upper
      ∙ halved_there times low ((low + high) / 2) (omega arith) least (omega arith) up up_to_lem))
      (λ no. let done : high ≤ low = ltb-false low high no in halved_done (name_at s) name (suc times) low high done ∙ omega arith)

  place_is : place_in s (first_in s t) (past_in s t) name ≡ place
  unfolding place_in
  place_is =
      halved_there (past_in s t - first_in s t) (first_in s t) (past_in s t) (omega arith) (omega arith) (omega arith)
      (place-from s undamaged t name) (place-upto s undamaged t name small)

  -- the tests at the place are whether the name is held
  tests_say : (ltb place (past_in s t) && eqb (name_at s place) name)
      ≡ (ltb place (length (book_of s).records) && eqb (get_or (book_of s).records place (record_at s place)).name (full_name t name))
  tests_say =
      either (ltb place (past_in s t))
      (λ yes.
      let before : place < past_in s t = ltb-true place (past_in s t) yes in
      let from = place-from s undamaged t name in
      rw (yes, lt-ltb place (length (book_of s).records) (inside place from before), own_name s undamaged t place from before)
      (own_named t (name_at s place) name))
      (λ no.
      let end : past_in s t ≤ place = ltb-false place (past_in s t) no in
      rw no
      (either (ltb place (length (book_of s).records))
      (λ yes.
      let within : place < record_count s = omega (arith, ltb-true place (length (book_of s).records) yes, book_count s) in
      let above = past-above s undamaged t place within end in
      rw (yes, ne_eqb (get_or (book_of s).records place (record_at s place)).name (full_name t name) (λ e. omega arith)) refl)
      (λ beyond. rw beyond refl)))

  pub search_says : searched_under s t name ≡ found_in (full_name t name) (book_of s).records
  unfolding searched found_in
  search_says =
      let frame = book_frame s undamaged in
      rw (le-leb (used_length (past_in s t)) (length s) (omega (arith, past-within s undamaged t, frame.size, frame.few)), place_is)
      (ap (λ (held : Bool). cond held (At place) (Absent place))
      (tests_say ∙ sym (held_there (full_name t name) (record_at s place) (book_of s).records (good s undamaged).sorted)))
