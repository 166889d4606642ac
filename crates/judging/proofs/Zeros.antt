-- The test that all bytes are zero: how it goes along them, and what it says of each.
-- Assumes nothing.
use mathlib.Core.Path.{◌≡◌, refl, sym, ap, ◌∙◌}
use mathlib.Core.Bool.{Bool, true, ◌&&◌, and_assoc}
use mathlib.Core.List.{List, ◌∷◌}
use Prim.Native.Nat.{ℕ, ◌+◌, ◌-◌, ◌≤◌, ◌<◌}
use native.Mathlib.Numerals.{add-one}
use native.Mathlib.Omega.{arith}
use borrow.Author.Tests.{eqb-true, eq-eqb, ltb-true, ltb-false}
use lib.Bits.{bit_or, or_add_and, and_le_l, and_le_r}
use lib.Dec.{ltb}
use lib.ListN.{length, get_or, drop, drop_of_length-le, get_or-eq_default}
use lib.Seq.{drop-cons, get_or-drop}
use Rattle.octets.specs.Every.{all_of}
use Rattle.octets.proofs.Every.{and_first, and_second, either, same_tests, all_at_lem, at_all}
use Rattle.judging.specs.Judging.{is_zero}

or_none : (a b : ℕ) → is_zero (bit_or a b) ≡ (is_zero a && is_zero b)
or_none a b =
    same_tests (is_zero (bit_or a b)) (is_zero a && is_zero b)
    (λ none. let e : bit_or a b ≡ 0 = eqb-true _ _ none in
    rw (eq-eqb a 0 (omega (arith, or_add_and a b, and_le_r a b)), eq-eqb b 0 (omega (arith, or_add_and a b, and_le_l a b))))
    (λ both. let e : a ≡ 0 = eqb-true a 0 (and_first (is_zero a) (is_zero b) both) in
    let f : b ≡ 0 = eqb-true b 0 (and_second (is_zero a) (is_zero b) both) in
    eq-eqb (bit_or a b) 0 (omega (arith, or_add_and a b)))

and_true : (a : Bool) → (a && true) ≡ a
and_true a = either a (λ e. rw e) (λ e. rw e)

-- i bytes were taken together to `all`, and those from place i on are left
pub record ZerosFrom (s : List ℕ) (all i : ℕ) : Type 0 where
  pub count : i ≤ length s
  pub same : all_of is_zero s ≡ (is_zero all && all_of is_zero (drop i s))

module _ {s : List ℕ} where
  pub zeros_start : ZerosFrom s 0 0
  zeros_start = record { count = omega arith; same = refl }

  module _ {all i : ℕ} (from : ZerosFrom s all i) where
    pub zeros-next : i < length s → ZerosFrom s (bit_or all (get_or s i 0)) (i + 1)
    unfolding all_of
    zeros-next more =
        record {
          count = omega arith;
          same =
              from.same
              ∙ ap (λ (l : List ℕ). is_zero all && all_of is_zero l) (drop-cons s i 0 more ∙ ap (λ (k : ℕ). get_or s i 0 ∷ drop k s) (sym (add-one i)))
              ∙ sym (and_assoc (is_zero all) (is_zero (get_or s i 0)) (all_of is_zero (drop (i + 1) s)))
              ∙ ap (λ (b : Bool). b && all_of is_zero (drop (i + 1) s)) (sym (or_none all (get_or s i 0)));
        }

    pub zeros_end : length s ≤ i → is_zero all ≡ all_of is_zero s
    unfolding all_of
    zeros_end done =
        sym (from.same ∙ ap (λ (l : List ℕ). is_zero all && all_of is_zero l) (drop_of_length-le s done) ∙ and_true (is_zero all))

-- the bytes of s from place `at` on
module _ (s : List ℕ) (at : ℕ) where
  pub zeros-each : all_of is_zero (drop at s) ≡ true → (j : ℕ) → at ≤ j → get_or s j 0 ≡ 0
  zeros-each all j h =
      let e : at + (j - at) ≡ j = omega arith in
      sym (ap (λ (k : ℕ). get_or s k 0) e) ∙ sym (get_or-drop at s (j - at) 0) ∙ there (j - at)
    where
      there : (i : ℕ) → get_or (drop at s) i 0 ≡ 0
      there i =
          either (ltb i (length (drop at s)))
          (λ inside. eqb-true _ 0 (all_at_lem is_zero (drop at s) all i (ltb-true _ _ inside)))
          (λ beyond. get_or-eq_default (drop at s) 0 (ltb-false _ _ beyond))

  pub each-zero : ((j : ℕ) → at ≤ j → get_or s j 0 ≡ 0) → all_of is_zero (drop at s) ≡ true
  each-zero each =
      at_all is_zero (drop at s) (λ i h. eq-eqb _ 0 (get_or-drop at s i 0 ∙ each (at + i) (omega arith)))
