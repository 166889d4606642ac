-- Going along a text: from each place on it is what is left, and the parts at these places are what was written there.
-- Assumes nothing.
use mathlib.Core.Path.{◌≡◌, sym, ap, ◌∙◌}
use mathlib.Core.Bool.{Bool, true}
use mathlib.Core.List.{List, ◌∷◌, ◌++◌, append_assoc}
use Prim.Native.Nat.{ℕ, ◌+◌, ◌^◌, ◌≤◌, ◌<◌}
use native.Mathlib.Nat.{add-zero}
use native.Mathlib.Omega.{arith}
use lib.ListN.{length, get_or, drop, length-append}
use lib.Seq.{drop_at, get_or_at, get_or-drop}
use Rattle.octets.specs.Numbers.{bytes_of, bytes_number}
use Rattle.octets.specs.Every.{all_of}
use Rattle.octets.specs.Places.{number_at}
use Rattle.octets.proofs.Digits.{digits-length, value-digits_fit}
use Rattle.octets.proofs.Places.{number_within}
use Rattle.text.specs.Texts.{part, all_at}
use Rattle.text.proofs.TextsAt.{part_front, all_front}

-- from place at on, s is rest
pub record From (s : List ℕ) (at : ℕ) (rest : List ℕ) : Type 0 where
  pub front : List ℕ
  pub split : s ≡ front ++ rest
  pub place : length front ≡ at

module _ {s : List ℕ} {at : ℕ} (t rest : List ℕ) (from : From s at (t ++ rest)) (n : ℕ) (size : length t ≡ n) where
  pub next : From s (at + n) rest
  next =
      record {
        front = from.front ++ t;
        split = from.split ∙ sym (append_assoc from.front t rest);
        place = length-append from.front t ∙ omega (arith, from.place);
      }

  pub within : at + n ≤ length s
  within =
      omega (arith, from.place, ap length from.split, length-append from.front (t ++ rest), length-append t rest)

  pub part_there : part n s at ≡ t
  part_there =
      ap (λ (l : List ℕ). part n l at) from.split ∙ part_front n at from.front t rest from.place size

  pub all_there : (test : ℕ → Bool) → all_of test t ≡ true → all_at test n s at ≡ true
  all_there test all = all_front test n s at from.front t rest from.split from.place size all

module _ {s : List ℕ} {at : ℕ} where
  pub moved : {place : ℕ} (rest : List ℕ) → From s at rest → at ≡ place → From s place rest
  moved rest from e = rw e at from

  pub rest_there : (rest : List ℕ) → From s at rest → drop at s ≡ rest
  rest_there rest from = ap (drop at) from.split ∙ drop_at from.front rest at from.place

  pub length_there : (rest : List ℕ) → From s at rest → length s ≡ at + length rest
  length_there rest from = ap length from.split ∙ length-append from.front rest ∙ ap (λ (n : ℕ). n + length rest) from.place

  pub first_there : (c : ℕ) (rest : List ℕ) → From s at (c ∷ rest) → get_or s at 0 ≡ c
  first_there c rest from =
      ap (λ (l : List ℕ). get_or l at 0) from.split ∙ get_or_at from.front c rest 0 at from.place

  pub head_there : (rest : List ℕ) → From s at rest → get_or s at 0 ≡ get_or rest 0 0
  head_there rest from = rw (get_or-drop, add-zero) at (ap (λ (l : List ℕ). get_or l 0 0) (rest_there rest from))

  pub number_there : (n x : ℕ) (rest : List ℕ) → From s at (bytes_of n x ++ rest) → x < 256 ^ n → number_at n s at ≡ x
  number_there n x rest from fits =
      let size : length (bytes_of n x) ≡ n = digits-length 256 n x in
      number_within n s at (within (bytes_of n x) rest from n size)
      ∙ ap bytes_number (part_there (bytes_of n x) rest from n size)
      ∙ value-digits_fit 256 n x (omega arith) fits
