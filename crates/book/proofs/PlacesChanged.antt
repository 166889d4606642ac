-- Calls of two tenants of which neither is the other's principal may change places: every tenant hears the same calls in the same order.
-- Assumes nothing.
use mathlib.Core.Path.{◌≡◌, refl, sym, ap, ◌∙◌}
use mathlib.Core.Bool.{Bool, true, false, cond, ◌||◌}
use mathlib.Core.List.{List, [], ◌∷◌, ◌++◌}
use Prim.Native.Nat.{ℕ}
use borrow.Author.Tests.{eqb-true}
use lib.Dec.{eqb}
use Rattle.octets.proofs.Every.{and_first, either}
use Rattle.tenants.specs.Calls.{Call}
use Rattle.tenants.specs.Alone.{Made, calls_of}
use Rattle.tenants.specs.Branches.{changes_cells, changes, calls_on}
use Rattle.layout.specs.Layout.{list_in}
use Rattle.book.specs.Mixed.{PlacesChanged}
use Rattle.book.proofs.Mixes.{mixing_in_order}

-- two that are taken in by tests which do not both pass may change places
swapped : {A : Type 0} (a b : Bool) (x y : A) (l : List A) → (a ≡ true → b ≡ true → ⊥)
    → cond a (x ∷ cond b (y ∷ l) l) (cond b (y ∷ l) l) ≡ cond b (y ∷ cond a (x ∷ l) l) (cond a (x ∷ l) l)
swapped true true x y l never = absurd (never refl refl)
swapped true false x y l never = refl
swapped false true x y l never = refl
swapped false false x y l never = refl

module _ (m k : Made) (after : List Made) where
  abbrev first : List Made
  first = m ∷ (k ∷ after)

  abbrev second : List Made
  second = k ∷ (m ∷ after)

  own_swapped : (t : ℕ) → (m.tenant ≡ k.tenant → ⊥) → (before : List Made) → calls_of t (before ++ first) ≡ calls_of t (before ++ second)
  unfolding calls_of
  own_swapped t two [] =
      swapped (eqb m.tenant t) (eqb k.tenant t) m.call k.call (calls_of t after)
      (λ mine its. two (eqb-true m.tenant t mine ∙ sym (eqb-true k.tenant t its)))
  own_swapped t two (n ∷ before) =
      ap (λ (l : List Call). cond (eqb n.tenant t) (n.call ∷ l) l) (own_swapped t two before)

  -- tenant t, which reads list p, hears at most one of them
  heard_swapped : (t p : ℕ) → ((eqb m.tenant t || changes p m) ≡ true → (eqb k.tenant t || changes p k) ≡ true → ⊥)
      → (before : List Made) → calls_on t p (before ++ first) ≡ calls_on t p (before ++ second)
  unfolding calls_on
  heard_swapped t p never [] = swapped (eqb m.tenant t || changes p m) (eqb k.tenant t || changes p k) m k (calls_on t p after) never
  heard_swapped t p never (n ∷ before) =
      ap (λ (l : List Made). cond (eqb n.tenant t || changes p n) (n ∷ l) l) (heard_swapped t p never before)

-- who is heard is the tenant itself or the keeper of its list
heard : {P : Type 0} (t p : ℕ) (m : Made) → (eqb m.tenant t || changes p m) ≡ true → (m.tenant ≡ t → P) → (m.tenant ≡ p → P) → P
heard t p m is self keeper =
    either (eqb m.tenant t)
    (λ mine. self (eqb-true m.tenant t mine))
    (λ not. keeper (eqb-true m.tenant p (and_first (eqb m.tenant p) (changes_cells m.call) (rw not at is))))

pub places_changed : PlacesChanged
places_changed s before after m k undamaged apart =
    mixing_in_order s (before ++ first m k after) (before ++ second m k after) undamaged (λ t. own_swapped m k after t apart.two before)
    (λ t branch. heard_swapped m k after t (list_in s t) (never t) before)
  where
    never : (t : ℕ) → (eqb m.tenant t || changes (list_in s t) m) ≡ true → (eqb k.tenant t || changes (list_in s t) k) ≡ true → ⊥
    never t one two =
        heard t (list_in s t) m one
        (λ mine. heard t (list_in s t) k two (λ its. apart.two (mine ∙ sym its)) (λ keeps. apart.no_branch (ap (list_in s) mine ∙ sym keeps)))
        (λ keeps. heard t (list_in s t) k two (λ its. apart.no_principal (ap (list_in s) its ∙ sym keeps)) (λ its. apart.two (keeps ∙ sym its)))
