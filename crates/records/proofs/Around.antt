-- Bytes at a place put in the stead of others, put between, and taken out, where the bytes around them are known; of any size.
-- Assumes nothing.
use mathlib.Core.Path.{◌≡◌, refl, sym, ap, ap₂, ◌∙◌}
use mathlib.Core.List.{List, ◌++◌}
use Prim.Native.Nat.{ℕ, ◌+◌, ◌-◌}
use native.Mathlib.Omega.{arith}
use lib.ListN.{length, take, drop, length-append}
use lib.Seq.{take_at, drop_at, drop-append-add, length-take-le}
use Rattle.text.specs.Texts.{placed}
use Rattle.text.proofs.PlacedTexts.{placed-within}
use Rattle.layout.specs.Layout.{zeros}
use Rattle.records.specs.Moves.{moved_up, first_removed, gap_at, gap_closed}

module _ (front : List ℕ) (at : ℕ) (place : length front ≡ at) where
  past : (n : ℕ) (l : List ℕ) → drop (at + n) (front ++ l) ≡ drop n l
  past n l = ap (λ (m : ℕ). drop (m + n) (front ++ l)) (sym place) ∙ drop-append-add front l n

  -- in the stead of x
  pub replaced_at : (x d back : List ℕ) → length x ≡ length d → placed at d (front ++ (x ++ back)) ≡ front ++ (d ++ back)
  replaced_at x d back e =
      placed-within at d (front ++ (x ++ back)) (simp length-append (omega arith))
      ∙ ap₂ (λ (a b : List ℕ). a ++ (d ++ b)) (take_at front (x ++ back) at place)
      (past (length d) (x ++ back) ∙ drop_at x back (length d) e)

  -- between: what follows moves up over the room after it
  pub inserted_at : (moved room d back : List ℕ) (k used : ℕ) → at + length moved ≡ used → length room ≡ k → length d ≡ k
      → placed at d (gap_at k at used (front ++ (moved ++ (room ++ back)))) ≡ front ++ (d ++ (moved ++ back))
  inserted_at moved room d back k used e f g =
      ap (placed at d)
      (ap₂ (λ (a b : List ℕ). a ++ moved_up k (used - at) b) (take_at front rest at place) (drop_at front rest at place)
      ∙ ap₂ (λ (a b : List ℕ). front ++ (take k rest ++ (a ++ b))) (take_at moved (room ++ back) (used - at) amount) end)
      ∙ replaced_at (take k rest) d (moved ++ back) (length-take-le k rest (simp length-append (omega arith)) ∙ sym g)
    where
      rest : List ℕ
      rest = moved ++ (room ++ back)

      amount : length moved ≡ used - at
      amount = omega arith

      end : drop (used - at + k) rest ≡ back
      end =
          ap (λ (n : ℕ). drop (n + k) rest) (sym amount)
          ∙ drop-append-add moved (room ++ back) k
          ∙ drop_at room back k f

  -- taken out: what follows moves down, and zeros take its room
  pub removed_at : (x moved back : List ℕ) (k used : ℕ) → length x ≡ k → at + k + length moved ≡ used
      → gap_closed k at used (front ++ (x ++ (moved ++ back))) ≡ front ++ (moved ++ (zeros k ++ back))
  removed_at x moved back k used e f =
      ap₂ (λ (a b : List ℕ). a ++ first_removed k (used - k - at) b) (take_at front rest at place) (drop_at front rest at place)
      ∙ ap₂ (λ (a b : List ℕ). front ++ (a ++ (zeros k ++ b))) middle end
    where
      rest : List ℕ
      rest = x ++ (moved ++ back)

      middle : take (used - k - at) (drop k rest) ≡ moved
      middle = ap (take (used - k - at)) (drop_at x (moved ++ back) k e) ∙ take_at moved back (used - k - at) (omega arith)

      sum : used - k - at + k ≡ length x + length moved
      sum = omega arith

      end : drop (used - k - at + k) rest ≡ back
      end = ap (λ (n : ℕ). drop n rest) sum ∙ drop-append-add x (moved ++ back) (length moved) ∙ drop_at moved back (length moved) refl
