-- The number at a place: its bytes, its bound, and how two neighbours make one.
-- Assumes nothing.
use mathlib.Core.Path.{◌≡◌, refl, sym, ap, ap₂, ◌∙◌}
use mathlib.Core.List.{List, ◌++◌}
use Prim.Native.Nat.{ℕ, ◌+◌, ◌-◌, ◌*◌, ◌%◌, ◌^◌, ◌≤◌, ◌<◌}
use native.Mathlib.Nat.{one-le-pow}
use native.Mathlib.Omega.{arith}
use borrow.Author.Tests.{le-leb, lt-leb, leb-true, leb-false}
use lib.Dec.{leb}
use lib.ListN.{length, get_or, take, drop, length-append, length-drop}
use lib.Seq.{drop-cons, drop-drop, take-add, take_at, drop_at, length-take-le}
use Rattle.octets.specs.Numbers.{value, Below, bytes_of, bytes_number}
use Rattle.octets.specs.Places.{number_at}
use Rattle.octets.proofs.Digits.{digits-length, value-digits, value_below, digits_value, value_append, take_below, drop_below}
use Rattle.octets.proofs.Every.{either, same_tests}

module _ (n : ℕ) (s : List ℕ) (at : ℕ) where
  pub number_within : at + n ≤ length s → number_at n s at ≡ bytes_number (take n (drop at s))
  unfolding number_at
  number_within h = rw (le-leb (at + n) (length s) h)

  pub number_beyond : length s < at + n → number_at n s at ≡ 0
  unfolding number_at
  number_beyond h = rw (lt-leb (at + n) (length s) h)

  pub part_length : at + n ≤ length s → length (take n (drop at s)) ≡ n
  part_length h = length-take-le n (drop at s) (simp length-drop (omega arith))

module _ (n : ℕ) (s : List ℕ) (at : ℕ) (below : Below 256 s) where
  part_below : Below 256 (take n (drop at s))
  part_below = take_below n (drop at s) (drop_below at s below)

  -- the bytes of the number at a place are the bytes there
  pub bytes_at : at + n ≤ length s → bytes_of n (number_at n s at) ≡ take n (drop at s)
  bytes_at h =
      ap (bytes_of n) (number_within n s at h)
      ∙ rw (part_length n s at h) at (digits_value (take n (drop at s)) part_below)

  inside : at + n ≤ length s → bytes_number (take n (drop at s)) < 256 ^ n
  inside h = rw (part_length n s at h) at (value_below (take n (drop at s)) part_below)

  pub number_at_below : number_at n s at < 256 ^ n
  number_at_below =
      either (leb (at + n) (length s))
      (λ h. rw (number_within n s at (leb-true _ _ h)) (inside (leb-true _ _ h)))
      (λ h. rw (number_beyond n s at (leb-false _ _ h)) (one-le-pow n 256 (omega arith)))

-- the number at the place where the bytes of x stand is x
pub number_written : (n x : ℕ) (front back : List ℕ) → number_at n (front ++ (bytes_of n x ++ back)) (length front) ≡ x % 256 ^ n
number_written n x front back =
    number_within n (front ++ (bytes_of n x ++ back)) (length front) (simp (length-append, digits-length) (omega arith))
    ∙ rw (drop_at front (bytes_of n x ++ back) (length front) refl, take_at (bytes_of n x) back n (digits-length 256 n x), value-digits 256 n x (omega arith))

pub number_one : (s : List ℕ) (at : ℕ) → at + 1 ≤ length s → number_at 1 s at ≡ get_or s at 0
unfolding value
number_one s at h = number_within 1 s at h ∙ ap (λ (l : List ℕ). bytes_number (take 1 l)) (drop-cons s at 0 (omega arith)) ∙ omega arith

-- m bytes and n bytes after them
pub number_join : (m n : ℕ) (s : List ℕ) (at : ℕ) → at + (m + n) ≤ length s
    → number_at (m + n) s at ≡ number_at m s at * 256 ^ n + number_at n s (at + m)
number_join m n s at h =
    number_within (m + n) s at h
    ∙ (rw (take-add, drop-drop, value_append, part_length n s (at + m) (omega arith)))
    ∙ sym (ap₂ (λ (x y : ℕ). x * 256 ^ n + y) (number_within m s at (omega arith)) (number_within n s (at + m) (omega arith)))

-- eight bytes as four pairs
pub number_pairs : (s : List ℕ) (at : ℕ) → at + 8 ≤ length s
    → number_at 8 s at ≡ number_at 2 s at * 256 ^ 6 + number_at 2 s (at + 2) * 256 ^ 4 + number_at 2 s (at + 4) * 256 ^ 2 + number_at 2 s (at + 6)
number_pairs s at h =
    omega (arith, number_join 6 2 s at h, number_join 4 2 s at (omega arith), number_join 2 2 s at (omega arith))

-- n bytes from a place lie within, tested by the room that is left there
pub room : (n size at : ℕ) → at ≤ size → leb n (size - at) ≡ leb (at + n) size
room n size at h =
    same_tests (leb n (size - at)) (leb (at + n) size)
    (λ e. le-leb (at + n) size (omega (arith, leb-true n (size - at) e)))
    (λ e. le-leb n (size - at) (omega (arith, leb-true (at + n) size e)))

pub no_room : (n size at : ℕ) → size < at → leb at size ≡ leb (at + n) size
no_room n size at h = lt-leb at size h ∙ sym (lt-leb (at + n) size (omega arith))
