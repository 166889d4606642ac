-- What holds of each byte at the front of a list: bytes passed in chunks, and eight bytes beyond CR, tested at once.
-- Assumes nothing.
use Rattle.std.proofs.Common.{◌≡◌, ℕ, zero, suc, ◌+◌, ◌-◌, ◌*◌, ◌/◌, ◌%◌, ◌^◌, ◌<◌, ◌≤◌, true, eqb, ltb, List, [], ◌∷◌, length, get_or, take, drop, slice_range, sym, refl, ap, ◌∙◌, subst, arith, length-drop, length-take-le, get_or-drop, ltb-true, ltb-false, lt-ltb, eqb-true, take_all, Option, None, Some, EachIndex, MatchOption}
use Rattle.std.proofs.Math.Nat.{mul-le-mul_left}
use Rattle.std.proofs.lemmas.List.{get_or-take}
use Rattle.std.specs.List.{AllWithin, HoldsAt}
use Rattle.std.specs.Option.{unwrap_or}
use Rattle.std.specs.Simd.{first_chunks}
use Rattle.octets.specs.Numbers.{digits, Below, bytes_of}
use Rattle.octets.specs.Every.{all_of}
use Rattle.octets.specs.Places.{number_at}
use Rattle.octets.proofs.Every.{all_at_lem, either}
use Rattle.octets.proofs.Places.{bytes_at}
use Rattle.text.proofs.AtOnce.{bytes_all, tops, none_set, none_above}
use Rattle.text.proofs.LowDigits.{digits_low}
use Rattle.text.proofs.TextsAt.{all_append}

-- a slice that is lent to its end
pub to_end : (s : List ℕ) (n : ℕ) → slice_range s n (length s) ≡ drop n s
to_end s n = take_all (length s - n) (drop n s) (omega (arith, length-drop n s))

-- what holds of each byte of the first chunks
bytes_of_chunks : (P : ℕ → Type 0) (n m j : ℕ) (s : List ℕ) → n * m ≤ length s → j ≤ m
    → AllWithin (λ w. EachIndex w (λ k. P (get_or w k 0))) (first_chunks n m s) 0 j → (k : ℕ) → k < n * j → P (get_or s k 0)
bytes_of_chunks P n m zero s within h all k lt = absurd (omega arith)
bytes_of_chunks P n zero (suc j) s within h all k lt = absurd (omega arith)
bytes_of_chunks P n (suc m) (suc j) s within h all k lt =
    either (ltb k n)
    (λ first.
    let near : k < n = ltb-true k n first in
    subst P (get_or-take n s k 0 near) (all 0 (take n s) (omega arith) (omega arith) k (omega (arith, length-take-le n s (omega arith)))))
    (λ later.
    let far : n ≤ k = omega (arith, ltb-false k n later) in
    let same : n + (k - n) ≡ k = omega arith in
    subst P (get_or-drop n s (k - n) 0 ∙ ap (λ i. get_or s i 0) same)
    (bytes_of_chunks P n m j (drop n s) (omega (arith, length-drop n s)) (omega arith) (λ i d low high. all (suc i) d (omega arith) (omega arith)) (k - n) (omega arith)))

-- the chunks before the first that fails, or all
pub front_passed : (P : ℕ → Type 0) (n j : ℕ) (s : List ℕ) (chunks : List (List ℕ)) (r : Option ℕ)
    → chunks ≡ first_chunks n (length s / n) s → length chunks ≡ length s / n → n * (length s / n) ≤ length s → j ≡ unwrap_or r (length chunks)
    → MatchOption r (AllWithin (λ w. EachIndex w (λ k. P (get_or w k 0))) chunks 0 (length chunks))
    (λ i. (i < length chunks) × HoldsAt (λ w. Unit {0}) chunks i × AllWithin (λ w. EachIndex w (λ k. P (get_or w k 0))) chunks 0 i)
    → (n * j ≤ length s) × ((k : ℕ) → k < n * j → P (get_or s k 0))
front_passed P n j s chunks None all count whole is first =
    let few : j ≤ length s / n = omega arith in (
      omega (arith, mul-le-mul_left n few),
      bytes_of_chunks P n (length s / n) j s whole few (rw (← all, is) first),
    )
front_passed P n j s chunks (Some i) all count whole is first =
    let few : j ≤ length s / n = omega arith in (
      omega (arith, mul-le-mul_left n few),
      bytes_of_chunks P n (length s / n) j s whole few (rw (← all, is) first.2),
    )

-- 14 more than bytes below 128
all_past : (n y : ℕ) → tops n y ≡ 0 → all_of (ltb 13) (bytes_of n (y + bytes_all 14 n)) ≡ true
unfolding digits all_of bytes_all
all_past zero y none = refl
all_past (suc n) y none =
    let x = y + bytes_all 14 (suc n) in
    let parts = none_set n y none in
    let high : x / 256 ≡ y / 256 + bytes_all 14 n = omega (arith, parts.1) in
    let low : 13 < x % 256 = omega (arith, parts.1) in
    ap (all_of (ltb 13)) (digits_low 256 n x)
    ∙ all_append (ltb 13) (bytes_of n (x / 256)) (x % 256 ∷ [])
    ∙ rw (high, all_past n (y / 256) parts.0, lt-ltb 13 (x % 256) low)

-- what is left when 14 is taken from each of eight bytes
pub past_cr : (word : List ℕ) (y : ℕ) → Below 256 word → length word ≡ 8 → y < 2 ^ 64 → (y + bytes_all 14 8) % 2 ^ 64 ≡ number_at 8 word 0
    → eqb (tops 8 y) 0 ≡ true → EachIndex word (λ k. 13 < get_or word k 0)
unfolding bytes_all
past_cr word y below eight fits less none k lt =
    let x = number_at 8 word 0 in
    let low : y ≤ 9187201950435737471 = none_above 8 y (omega arith) (eqb-true (tops 8 y) 0 none) in
    let same : x ≡ y + bytes_all 14 8 = omega arith in
    let each : all_of (ltb 13) (bytes_of 8 x) ≡ true = rw same (all_past 8 y (eqb-true (tops 8 y) 0 none)) in
    let whole : bytes_of 8 x ≡ word = bytes_at 8 word 0 below (omega arith) ∙ take_all 8 word (omega arith) in
    ltb-true 13 (get_or word k 0) (all_at_lem (ltb 13) word (ap (all_of (ltb 13)) (sym whole) ∙ each) k lt)
