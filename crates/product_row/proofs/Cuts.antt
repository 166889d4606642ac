-- A text cut at a character: how far it goes, what stands there and before it, and what is left after some bytes.
-- Assumes nothing.
use mathlib.Core.Path.{◌≡◌, sym, ap, ◌∙◌}
use mathlib.Core.Bool.{Bool, true, false}
use mathlib.Core.List.{List, [], ◌∷◌}
use Prim.Native.Nat.{ℕ, zero, suc, ◌+◌, ◌≤◌, ◌<◌, suc-le-suc}
use native.Mathlib.Nat.{le_of_suc-le-suc}
use native.Mathlib.Omega.{arith}
use borrow.Author.Tests.{eqb-true, eqb-false, ne_eqb, ltb-true, ltb-false}
use lib.Dec.{eqb, ltb}
use lib.ListN.{length, get_or, take, drop}
use Rattle.octets.specs.Every.{all_of}
use Rattle.octets.proofs.Every.{either, all_first, all_rest}
use Rattle.product_row.specs.Fields.{length_to}

module _ (c : ℕ) where
  pub cut_within : (s : List ℕ) → length_to c s ≤ length s
  unfolding length_to
  cut_within [] = omega arith
  cut_within (b ∷ s) = either (eqb b c) (λ here. rw here (omega arith)) (λ on. rw on (suc-le-suc (cut_within s)))

  pub cut_there : (s : List ℕ) → length_to c s < length s → get_or s (length_to c s) 0 ≡ c
  unfolding length_to
  cut_there [] h = omega arith
  cut_there (b ∷ s) h =
      either (eqb b c)
      (λ here. rw here (eqb-true b c here))
      (λ on. rw on (cut_there s (le_of_suc-le-suc (rw on at h))))

  cut_before : (s : List ℕ) (n : ℕ) → n < length_to c s → get_or s n 0 ≡ c → ⊥
  unfolding length_to
  cut_before [] n h e = omega arith
  cut_before (b ∷ s) zero h e =
      either (eqb b c) (λ here. omega (arith, rw here at h)) (λ on. eqb-false b c on e)
  cut_before (b ∷ s) (suc n) h e =
      either (eqb b c)
      (λ here. omega (arith, rw here at h))
      (λ on. cut_before s n (le_of_suc-le-suc (rw on at h)) e)

  pub cut_rest : (s : List ℕ) (n : ℕ) → n ≤ length_to c s → n + length_to c (drop n s) ≡ length_to c s
  unfolding length_to
  cut_rest s zero h = omega arith
  cut_rest [] (suc n) h = omega arith
  cut_rest (b ∷ s) (suc n) h =
      either (eqb b c)
      (λ here. omega (arith, rw here at h))
      (λ on. rw on (omega (arith, cut_rest s n (le_of_suc-le-suc (rw on at h)))))

  -- where characters that are not c are followed by c
  module _ (s : List ℕ) (n : ℕ) (h : n ≤ length_to c s) where
    pub cut-here : get_or s n 0 ≡ c → length_to c s ≡ n
    cut-here e =
        either (ltb n (length_to c s))
        (λ less. absurd (cut_before s n (ltb-true n (length_to c s) less) e))
        (λ same. omega (arith, ltb-false n (length_to c s) same))

    pub cut_later : length_to c s < length s → (get_or s n 0 ≡ c → ⊥) → n < length_to c s
    cut_later more not =
        either (ltb n (length_to c s))
        (λ less. ltb-true n (length_to c s) less)
        (λ same.
        let e : length_to c s ≡ n = omega (arith, ltb-false n (length_to c s) same) in
        absurd (not (ap (λ (k : ℕ). get_or s k 0) (sym e) ∙ cut_there s more)))

  -- characters of a kind that c is not of
  pub run_uncut : (test : ℕ → Bool) → test c ≡ false → (s : List ℕ) (n : ℕ) → n ≤ length s → all_of test (take n s) ≡ true → n ≤ length_to c s
  unfolding length_to
  run_uncut test other s zero h all = omega arith
  run_uncut test other [] (suc n) h all = h
  run_uncut test other (b ∷ s) (suc n) h all =
      let differ : eqb b c ≡ false = ne_eqb b c (λ e. true-false (sym (rw e at (all_first test b (take n s) all)) ∙ other)) in
      rw differ (suc-le-suc (run_uncut test other s n (le_of_suc-le-suc h) (all_rest test b (take n s) all)))
    where
      true-false : true ≡ false → ⊥
      true-false e = let z : ◌≡◌ {A = ℕ} 0 1 = cc in omega arith
