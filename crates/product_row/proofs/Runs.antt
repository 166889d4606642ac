-- The digits that a text begins with: they are before any cut, and all of it where they are as many.
-- Assumes nothing.
use mathlib.Core.Path.{◌≡◌, refl, ap}
use mathlib.Core.Bool.{true, false}
use mathlib.Core.List.{List, [], ◌∷◌}
use Prim.Native.Nat.{ℕ, zero, suc, ◌≤◌, ◌<◌, suc-le-suc}
use native.Mathlib.Nat.{le_of_suc-le-suc}
use native.Mathlib.Omega.{arith}
use lib.ListN.{length, take}
use Rattle.octets.specs.Every.{all_of}
use Rattle.octets.proofs.Every.{either}
use Rattle.text.specs.Characters.{is_digit}
use Rattle.product_row.specs.Fields.{length_to, digits_first}
use Rattle.product_row.proofs.Cuts.{run_uncut}

run_within : (s : List ℕ) → digits_first s ≤ length s
unfolding digits_first
run_within [] = omega arith
run_within (b ∷ s) = either (is_digit b) (λ more. rw more (suc-le-suc (run_within s))) (λ end. rw end (omega arith))

run_digits : (s : List ℕ) → all_of is_digit (take (digits_first s) s) ≡ true
unfolding digits_first all_of
run_digits [] = refl
run_digits (b ∷ s) = either (is_digit b) (λ more. rw (more, more) (run_digits s)) (λ end. rw end)

pub run_before : (c : ℕ) → is_digit c ≡ false → (s : List ℕ) → digits_first s ≤ length_to c s
run_before c other s = run_uncut c is_digit other s (digits_first s) (run_within s) (run_digits s)

-- the same digits in a part that holds them
pub run_taken : (s : List ℕ) (n : ℕ) → digits_first s ≤ n → digits_first (take n s) ≡ digits_first s
unfolding digits_first
run_taken [] zero h = refl
run_taken [] (suc n) h = refl
run_taken (b ∷ s) zero h = either (is_digit b) (λ more. absurd (omega (arith, rw more at h))) (λ end. rw end)
run_taken (b ∷ s) (suc n) h =
    either (is_digit b) (λ more. rw more (ap suc (run_taken s n (le_of_suc-le-suc (rw more at h))))) (λ end. rw end)

pub run_all : (s : List ℕ) → digits_first s ≡ length s → all_of is_digit s ≡ true
unfolding digits_first all_of
run_all [] e = refl
run_all (b ∷ s) e =
    either (is_digit b)
    (λ more. rw more (run_all s (omega (arith, rw more at e))))
    (λ end. absurd (omega (arith, rw end at e)))

pub run_part : (s : List ℕ) → digits_first s < length s → all_of is_digit s ≡ false
unfolding digits_first all_of
run_part [] h = absurd (omega arith)
run_part (b ∷ s) h =
    either (is_digit b)
    (λ more. rw more (run_part s (omega (arith, rw more at h))))
    (λ end. rw end)
