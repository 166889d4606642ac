-- A text's characters tested one after the other, the faults of all of them taken together.
-- Assumes nothing.
use Rattle.std.proofs.Common.{◌≡◌, ℕ, ◌+◌, ◌<◌, ◌≤◌, Bool, ◌&&◌, List, ◌∷◌, length, get_or, drop, sym, ap, ◌∙◌, add-one, drop-cons, drop_of_length-le}
use mathlib.Core.Bool.{and_assoc, and-true}
use lib.Bits.{bit_or}
use Rattle.octets.specs.Every.{all_of}
use Rattle.line_shape.proofs.Faults.{passes, both_pass}

-- the test of a text is that of the faults of its first i characters and of those that are left
abbrev pub Clean : (ℕ → Bool) → List ℕ → ℕ → ℕ → Type 0
Clean test s i faults = all_of test s ≡ (passes faults && all_of test (drop i s))

module _ (test : ℕ → Bool) (s : List ℕ) (i faults : ℕ) (clean : Clean test s i faults) where
  pub clean_end : length s ≤ i → passes faults ≡ all_of test s
  unfolding all_of
  clean_end done = sym (clean ∙ ap (λ (l : List ℕ). passes faults && all_of test l) (drop_of_length-le s done) ∙ and-true (passes faults))

  pub clean_next : i < length s → (fault : ℕ) → passes fault ≡ test (get_or s i 0) → Clean test s (i + 1) (bit_or faults fault)
  unfolding all_of
  clean_next more fault told =
      let rest = all_of test (drop (i + 1) s) in
      clean
      ∙ ap (λ (l : List ℕ). passes faults && all_of test l)
      (drop-cons s i 0 more ∙ ap (λ (k : ℕ). get_or s i 0 ∷ drop k s) (sym (add-one i)))
      ∙ ap (λ (t : Bool). passes faults && (t && rest)) (sym told)
      ∙ sym (and_assoc (passes faults) (passes fault) rest)
      ∙ ap (λ (t : Bool). t && rest) (sym (both_pass faults fault))
