-- Bytes gathered into a number one after the other, eight at most. Assumes nothing.
use mathlib.Core.Path.{◌≡◌, ap, ◌∙◌}
use mathlib.Core.List.{List, [], ◌∷◌, ◌++◌}
use Prim.Native.Nat.{ℕ, ◌+◌, ◌-◌, ◌*◌, ◌^◌, ◌≤◌, ◌<◌}
use native.Mathlib.Nat.{mul_assoc, pow-le-pow_right}
use native.Mathlib.Numerals.{add-one}
use native.Mathlib.Omega.{arith}
use lib.ListN.{length, take, get_or}
use lib.Arith.{digits_lt}
use lib.Pow.{pow-add}
use lib.Seq.{take-suc, take-length, length-take-le}
use Rattle.octets.specs.Numbers.{Below, value, bytes_number}
use Rattle.octets.proofs.Digits.{value_append, value_below, take_below}

-- one byte more after others
value_one : (s : List ℕ) (b : ℕ) → bytes_number (s ++ (b ∷ [])) ≡ bytes_number s * 256 + b
unfolding value
value_one s b = value_append 256 s (b ∷ []) ∙ omega arith

-- y is the number of the bytes of x and the first i of s after them, and all of s has room in eight bytes
pub record Gathered (x : ℕ) (s : List ℕ) (i y : ℕ) : Type 0 where
  pub within : i ≤ length s
  pub few : length s ≤ 8
  pub fits : x < 256 ^ (8 - length s)
  pub is : y ≡ x * 256 ^ i + bytes_number (take i s)

pub none_yet : (x : ℕ) (s : List ℕ) → length s ≤ 8 → x < 256 ^ (8 - length s) → Gathered x s 0 x
unfolding value
none_yet x s few fits = record { within = omega arith; few = few; fits = fits; is = omega arith }

module _ (x : ℕ) (s : List ℕ) (i y : ℕ) (so_far : Gathered x s i y) (more : i < length s) where
  -- the bytes gathered so far are seven at most
  pub seven : Below 256 s → y < 256 ^ 7
  seven below =
      let size : length (take i s) ≡ i = length-take-le i s (omega arith) in
      let low : bytes_number (take i s) < 256 ^ i = rw size at (value_below (take i s) (take_below i s below)) in
      let high : x * 256 ^ i + bytes_number (take i s) < 256 ^ (8 - length s) * 256 ^ i = digits_lt so_far.fits low in
      let places : 8 - length s + i ≤ 7 = omega (arith, so_far.few) in
      let bound : 256 ^ (8 - length s + i) ≤ 256 ^ 7 = pow-le-pow_right {n = 256} (omega arith) places in
      omega (arith, high, so_far.is, pow-add 256 (8 - length s) i, bound)

  pub one_more : Gathered x s (i + 1) (y * 256 + get_or s i 0)
  one_more = record { within = omega arith; few = so_far.few; fits = so_far.fits; is = next }
    where
      parts : bytes_number (take (i + 1) s) ≡ bytes_number (take i s) * 256 + get_or s i 0
      parts = ap (λ (n : ℕ). bytes_number (take n s)) (add-one i) ∙ ap bytes_number (take-suc s i 0 more) ∙ value_one (take i s) (get_or s i 0)

      next : y * 256 + get_or s i 0 ≡ x * 256 ^ (i + 1) + bytes_number (take (i + 1) s)
      next = omega (arith, so_far.is, parts, ap (λ (n : ℕ). x * n) (pow-add 256 i 1), mul_assoc x (256 ^ i) (256 ^ 1))

pub all_gathered : (x : ℕ) (s : List ℕ) (i y : ℕ) → Gathered x s i y → length s ≤ i → y ≡ x * 256 ^ length s + bytes_number s
all_gathered x s i y so_far end =
    let e : i ≡ length s = omega (arith, so_far.within) in
    so_far.is ∙ ap (λ (n : ℕ). x * 256 ^ n + bytes_number (take n s)) e ∙ ap (λ (l : List ℕ). x * 256 ^ length s + bytes_number l) (take-length s)
