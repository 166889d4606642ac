-- What stands in a part of the bytes stands in the whole, further on.
-- Assumes nothing.
use mathlib.Core.Path.{◌≡◌, refl, sym, ap, ◌∙◌}
use mathlib.Core.List.{List, [], ◌∷◌}
use Prim.Native.Nat.{ℕ, zero, suc, ◌+◌, ◌-◌, ◌≤◌}
use native.Mathlib.Nat.{le_of_suc-le-suc, not-suc-le-zero, zero-add, suc-add}
use native.Mathlib.Omega.{arith}
use lib.ListN.{length, get_or, take, drop}
use lib.Seq.{take-take, drop-drop}
use Rattle.octets.specs.Numbers.{bytes_number}
use Rattle.octets.specs.Places.{number_at}
use Rattle.octets.proofs.Places.{number_within, part_length}
use Rattle.text.specs.Texts.{part}
use Rattle.layout.proofs.Told.{byte_number}

-- a part that is lent from one place to another
pub part_lent_lem : (n : ℕ) (s : List ℕ) (at : ℕ) → part (at + n - at) s at ≡ part n s at
part_lent_lem n s at = let size : at + n - at ≡ n = omega arith in ap (λ (k : ℕ). part k s at) size

take-drop-take : (n k m : ℕ) (l : List ℕ) → k + n ≤ m → take n (drop k (take m l)) ≡ take n (drop k l)
take-drop-take n zero m l h = take-take n m l (rw zero-add at h)
take-drop-take n (suc k) zero l h = absurd (not-suc-le-zero (rw suc-add at h))
take-drop-take n (suc k) (suc m) [] h = refl
take-drop-take n (suc k) (suc m) (b ∷ l) h = take-drop-take n k m l (le_of_suc-le-suc (rw suc-add at h))

module _ (m : ℕ) (s : List ℕ) (at : ℕ) (within : at + m ≤ length s) where
  pub number_in_part : (n k : ℕ) → k + n ≤ m → number_at n (part m s at) k ≡ number_at n s (at + k)
  number_in_part n k h =
      number_within n (part m s at) k (rw (part_length m s at within) h)
      ∙ ap bytes_number (take-drop-take n k m (drop at s) h ∙ ap (take n) (drop-drop k at s))
      ∙ sym (number_within n s (at + k) (omega arith))

  pub byte_in_part : (k : ℕ) → k + 1 ≤ m → get_or (part m s at) k 0 ≡ number_at 1 s (at + k)
  byte_in_part k h = sym (byte_number (part m s at) k) ∙ number_in_part 1 k h

  pub first_byte : 1 ≤ m → get_or (part m s at) 0 0 ≡ get_or s at 0
  first_byte h =
      let e : at + 0 ≡ at = omega arith in
      byte_in_part 0 h ∙ ap (number_at 1 s) e ∙ byte_number s at
