-- A number written from its lowest digit: one digit, and then the number without it.
-- Assumes nothing.
use Rattle.std.proofs.Common.{◌≡◌, ℕ, zero, suc, ◌+◌, ◌-◌, ◌/◌, ◌%◌, ◌^◌, ◌<◌, ◌≤◌, List, [], ◌∷◌, ◌++◌, map, length, drop, set, slice_range, sym, refl, ap, ◌∙◌, ap₂, le_refl, append-nil, append_assoc, drop_of_length-le, div-one, arith}
use mathlib.Core.List.{map-append}
use native.Mathlib.Nat.{pow-zero, pow-succ', div-div-eq-div-mul}
use borrow.Rule.Slice.PartMut.{put_mid}
use lib.ListN.{length-map}
use Rattle.octets.specs.Numbers.{digits}
use Rattle.octets.proofs.Digits.{digits-length}
use Rattle.octets.proofs.Places.{part_length}
use Rattle.text.specs.Texts.{part, placed}
use Rattle.text.proofs.PlacedTexts.{placed_beyond, placed_mid}

pub digits_low : (b n x : ℕ) → digits b (suc n) x ≡ digits b n (x / b) ++ (x % b ∷ [])
unfolding digits
digits_low b zero x = rw (pow-zero, div-one)
digits_low b (suc n) x =
    ap₂ (λ (d : ℕ) (ds : List ℕ). d % b ∷ ds)
    (ap (λ (m : ℕ). x / m) (pow-succ' b n) ∙ sym (div-div-eq-div-mul x b (b ^ n)))
    (digits_low b n x)

drop_set_here : (i v : ℕ) (s : List ℕ) → i < length s → drop i (set s i v) ≡ v ∷ drop (suc i) s
drop_set_here i v [] fits = absurd (omega arith)
drop_set_here zero v (c ∷ s) fits = refl
drop_set_here (suc i) v (c ∷ s) fits = drop_set_here i v s (omega arith)

-- x in n digits of base b
unfoldable pub written : ℕ → (ℕ → ℕ) → ℕ → ℕ → List ℕ
written b character n x = map character (digits b n x)

module _ (b : ℕ) (character : ℕ → ℕ) where
  written_length_lem : (n x : ℕ) → length (written b character n x) ≡ n
  unfolding written
  written_length_lem n x = length-map (digits b n x) character ∙ digits-length b n x

  written_low : (n x : ℕ) → written b character n (x / b) ++ (character (x % b) ∷ []) ≡ written b character (suc n) x
  unfolding written
  written_low n x = sym (ap (map character) (digits_low b n x) ∙ map-append character (digits b n (x / b)) (x % b ∷ []))

  -- of the n digits of x all but the i highest are there, which are the digits of rest
  abbrev pub Left : (n x : ℕ) (out : List ℕ) (rest i : ℕ) → Type 0
  Left n x out rest i = written b character i rest ++ drop i out ≡ written b character n x

  pub none_yet : (x : ℕ) (out : List ℕ) → Left (length out) x out x (length out)
  none_yet x out = ap (λ (l : List ℕ). written b character (length out) x ++ l) (drop_of_length-le out (le_refl (length out))) ∙ append-nil _

  -- the digit v is put at the last of the places that are left
  pub one_more : (n x : ℕ) (out : List ℕ) (rest i v : ℕ) → v ≡ character (rest % b) → 0 < i → i ≤ length out → Left n x out rest i
      → Left n x (set out (i - 1) v) (rest / b) (i - 1)
  one_more n x out rest zero v is more few so_far = absurd (omega arith)
  one_more n x out rest (suc i) v is more few so_far =
      let here : drop i (set out i v) ≡ v ∷ drop (suc i) out = drop_set_here i v out few in
      let one : suc i - 1 ≡ i = omega arith in
      ap (λ (k : ℕ). written b character k (rest / b) ++ drop k (set out k v)) one
      ∙ ap (λ (l : List ℕ). written b character i (rest / b) ++ l) here
      ∙ ap (λ (w : ℕ). written b character i (rest / b) ++ (w ∷ drop (suc i) out)) is
      ∙ sym (append_assoc (written b character i (rest / b)) (character (rest % b) ∷ []) (drop (suc i) out))
      ∙ ap (λ (l : List ℕ). l ++ drop (suc i) out) (written_low i rest)
      ∙ so_far

  pub all_there : (n x : ℕ) (out : List ℕ) (rest i : ℕ) → i ≤ 0 → Left n x out rest i → out ≡ map character (digits b n x)
  unfolding written digits
  all_there n x out rest zero h so_far = so_far
  all_there n x out rest (suc i) h so_far = absurd (omega arith)

  -- the digits written over a part of as many places
  pub placed_digits : (at n x : ℕ) (s new : List ℕ) → at + n ≤ length s → new ≡ map character (digits b (length (slice_range s at (at + n))) x)
      → put_mid at (at + n - at) s new ≡ placed at (map character (digits b n x)) s
  placed_digits at n x s new within is =
      let count : at + n - at ≡ n = omega arith in
      let size : length (map character (digits b n x)) ≡ n = length-map (digits b n x) character ∙ digits-length b n x in
      placed_mid at (at + n - at) s new (map character (digits b n x)) (rw size within) (count ∙ sym size)
      (is
      ∙ ap (λ (m : ℕ). map character (digits b (length (part m s at)) x)) count
      ∙ ap (λ (m : ℕ). map character (digits b m x)) (part_length n s at within))

  pub no_place : (at n x : ℕ) (s : List ℕ) → length s < at + n → s ≡ placed at (map character (digits b n x)) s
  no_place at n x s beyond =
      sym (placed_beyond at (map character (digits b n x)) s (rw (length-map (digits b n x) character ∙ digits-length b n x) beyond))
