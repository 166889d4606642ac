-- The bytes at a place: their count, their first, and what a test of them all says.
-- Assumes nothing.
use Rattle.std.proofs.Common.{◌≡◌, ℕ, zero, suc, ◌+◌, ◌-◌, ◌<◌, ◌≤◌, Bool, true, false, ◌&&◌, leb, List, [], ◌∷◌, ◌++◌, length, get_or, take, drop, sym, refl, ap, ◌∙◌, ap₂, add-one, arith, length-append, get_or-drop, drop-cons, get_or-take, take-take, drop-drop, take_at, take-add, drop_at, le-leb, leb-true}
use borrow.Author.Tests.{lt-leb}
use Rattle.std.specs.List.{list_all, slice_range}
use Rattle.octets.specs.Every.{all_of}
use Rattle.octets.proofs.Every.{and_first, and_second, either, all_at_lem, all_is_list_all}
use Rattle.octets.proofs.Places.{part_length}
use Rattle.text.specs.Texts.{part, all_at}

-- the bytes from place at + i on: the one there, and those after it
pub part_first : (n : ℕ) (s : List ℕ) (at i : ℕ) → at + n ≤ length s → i < n
    → part (n - i) s (at + i) ≡ get_or s (at + i) 0 ∷ part (n - (i + 1)) s (at + (i + 1))
part_first n s at i within more =
    let count : n - i ≡ suc (n - (i + 1)) = omega arith in
    let next : at + i + 1 ≡ at + (i + 1) = omega arith in
    ap₂ (λ (k : ℕ) (l : List ℕ). take k l) count
    (drop-cons s (at + i) 0 (omega arith) ∙ ap (λ (k : ℕ). get_or s (at + i) 0 ∷ drop k s) (sym (add-one (at + i)) ∙ next))

-- the bytes of t at the place where t stands
pub part_front : (n at : ℕ) (front t back : List ℕ) → length front ≡ at → length t ≡ n → part n (front ++ (t ++ back)) at ≡ t
part_front n at front t back start count = rw (drop_at front (t ++ back) at start, take_at t back n count)

-- n bytes, and m after them
pub part_join : (n m : ℕ) (s : List ℕ) (at : ℕ) → part (n + m) s at ≡ part n s at ++ part m s (at + n)
part_join n m s at = rw (take-add, drop-drop)

-- n bytes of the first m
pub part-within : (n m : ℕ) (s : List ℕ) (at : ℕ) → at + n ≤ m → part n (take m s) at ≡ part n s at
part-within n m s zero h = take-take n m s (omega arith)
part-within n zero s (suc at) h = absurd (omega arith)
part-within n (suc m) [] (suc at) h = refl
part-within n (suc m) (c ∷ s) (suc at) h = part-within n m s at (omega arith)

-- and of the m from a place on
pub part_of_part : (n m : ℕ) (s : List ℕ) (at k : ℕ) → k + n ≤ m → part n (part m s at) k ≡ part n s (at + k)
part_of_part n m s at k h = part-within n m (drop at s) k h ∙ ap (take n) (drop-drop k at s)

-- what the library tests of a range is the test at its place
pub range_all : (test : ℕ → Bool) (n : ℕ) (s : List ℕ) (at : ℕ) → at + n ≤ length s → list_all test (slice_range s at (at + n)) ≡ all_at test n s at
unfolding all_at
range_all test n s at within =
    let count : at + n - at ≡ n = omega arith in
    rw (le-leb (at + n) (length s) within, count) (sym (all_is_list_all test (part n s at)))

-- where the first m bytes are the same, so is what stands among them
module _ (m : ℕ) (s t : List ℕ) (same : take m s ≡ take m t) where
  pub same_within : (n at : ℕ) → at + n ≤ m → part n s at ≡ part n t at
  same_within n at h = sym (part-within n m s at h) ∙ ap (λ (l : List ℕ). part n l at) same ∙ part-within n m t at h

  pub same_byte : (k : ℕ) → k < m → get_or s k 0 ≡ get_or t k 0
  same_byte k h = sym (get_or-take m s k 0 h) ∙ ap (λ (l : List ℕ). get_or l k 0) same ∙ get_or-take m t k 0 h

module _ (test : ℕ → Bool) where
  pub all_append : (s t : List ℕ) → all_of test (s ++ t) ≡ (all_of test s && all_of test t)
  unfolding all_of
  all_append [] t = refl
  all_append (c ∷ s) t = either (test c) (λ good. rw (good, all_append s t)) (λ bad. rw bad)

module _ (test : ℕ → Bool) (n : ℕ) (s : List ℕ) (at : ℕ) where
  pub all_within : all_at test n s at ≡ true → at + n ≤ length s
  unfolding all_at
  all_within all = leb-true _ _ (and_first (leb (at + n) (length s)) (all_of test (part n s at)) all)

  pub all_there : all_at test n s at ≡ true → all_of test (part n s at) ≡ true
  unfolding all_at
  all_there all = and_second (leb (at + n) (length s)) (all_of test (part n s at)) all

  pub all_byte : all_at test n s at ≡ true → (k : ℕ) → k < n → test (get_or s (at + k) 0) ≡ true
  all_byte all k h =
      let size : length (part n s at) ≡ n = part_length n s at (all_within all) in
      ap test (sym (get_or-take n (drop at s) k 0 h ∙ get_or-drop at s k 0)) ∙ all_at_lem test (part n s at) (all_there all) k (omega arith)

  pub all_beyond : length s < at + n → all_at test n s at ≡ false
  unfolding all_at
  all_beyond beyond = rw (lt-leb (at + n) (length s) beyond)

  -- where the bytes lie within s, only their test is left
  pub all_inside : at + n ≤ length s → all_at test n s at ≡ all_of test (part n s at)
  unfolding all_at
  all_inside within = rw (le-leb (at + n) (length s) within)

  pub all_at_place : at + n ≤ length s → all_of test (part n s at) ≡ true → all_at test n s at ≡ true
  all_at_place within all = all_inside within ∙ all

  -- where t stands after `at` bytes
  pub all_front : (front t back : List ℕ) → s ≡ front ++ (t ++ back) → length front ≡ at → length t ≡ n → all_of test t ≡ true → all_at test n s at ≡ true
  all_front front t back e start count all =
      all_at_place (omega (arith, simp (length-append) at (ap length e)))
      (ap (all_of test) (ap (λ (l : List ℕ). part n l at) e ∙ part_front n at front t back start count) ∙ all)

module _ (test : ℕ → Bool) (n m : ℕ) (s : List ℕ) (at : ℕ) where
  pub all_join : all_at test n s at ≡ true → all_at test m s (at + n) ≡ true → all_at test (n + m) s at ≡ true
  all_join first second =
      all_at_place test (n + m) s at (omega (arith, all_within test m s (at + n) second))
      (ap (all_of test) (part_join n m s at)
      ∙ all_append test (part n s at) (part m s (at + n))
      ∙ ap₂ (λ (a b : Bool). a && b) (all_there test n s at first) (all_there test m s (at + n) second))

  both : all_at test (n + m) s at ≡ true → (all_of test (part n s at) && all_of test (part m s (at + n))) ≡ true
  both all =
      sym (ap (all_of test) (part_join n m s at) ∙ all_append test (part n s at) (part m s (at + n)))
      ∙ all_there test (n + m) s at all

  pub all_left : all_at test (n + m) s at ≡ true → all_at test n s at ≡ true
  all_left all =
      all_at_place test n s at (omega (arith, all_within test (n + m) s at all))
      (and_first (all_of test (part n s at)) (all_of test (part m s (at + n))) (both all))

  pub all_right : all_at test (n + m) s at ≡ true → all_at test m s (at + n) ≡ true
  all_right all =
      all_at_place test m s (at + n) (omega (arith, all_within test (n + m) s at all))
      (and_second (all_of test (part n s at)) (all_of test (part m s (at + n))) (both all))
