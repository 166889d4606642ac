-- The test of two texts, byte for byte, is that they are equal; and how it goes along them.
-- Assumes nothing.
use Rattle.std.proofs.Common.{◌≡◌, ℕ, ◌+◌, ◌-◌, ◌<◌, true, false, eqb, List, [], ◌∷◌, length, drop, slice_range, take_all, le_refl, sym, refl, ap, ◌∙◌, ap₂, arith, length-drop, length-take, eq-eqb, ne_eqb, eqb-true}
use lib.Pointwise.{pointwise}
use Rattle.std.specs.List.{starts_with}
use Rattle.octets.proofs.Every.{and_first, and_second, either}
use Rattle.text.specs.Texts.{part, same_text, stands_at}

pub same_true : (s t : List ℕ) → same_text s t ≡ true → s ≡ t
unfolding same_text
same_true [] [] e = refl
same_true [] (b ∷ t) e = cc
same_true (a ∷ s) [] e = cc
same_true (a ∷ s) (b ∷ t) e =
    ap₂ (λ (d : ℕ) (l : List ℕ). d ∷ l)
    (eqb-true a b (and_first (eqb a b) (same_text s t) e))
    (same_true s t (and_second (eqb a b) (same_text s t) e))

pub same_refl : (s : List ℕ) → same_text s s ≡ true
unfolding same_text
same_refl [] = refl
same_refl (a ∷ s) = rw (eq-eqb a a refl, same_refl s)

pub differ_same : (s t : List ℕ) → (s ≡ t → ⊥) → same_text s t ≡ false
differ_same s t differ =
    either (same_text s t) (λ same. absurd (differ (same_true s t same))) (λ other. other)

-- of a text that does not lie within s only the empty one stands there
pub stands_beyond : (t s : List ℕ) (at : ℕ) → length s < at + length t → stands_at t s at ≡ eqb (length t) 0
unfolding same_text
stands_beyond [] s at beyond = refl
stands_beyond (b ∷ t) s at beyond =
    differ_same (part (length (b ∷ t)) s at) (b ∷ t) (λ same. omega (arith, simp (length-take, length-drop) at (ap length same)))
    ∙ sym (ne_eqb (length (b ∷ t)) 0 (λ none. omega arith))

equal_either_way : (a b : ℕ) → eqb a b ≡ eqb b a
equal_either_way a b = either (eqb a b) (λ same. rw (eq-eqb b a (sym (eqb-true a b same)), same)) (λ other. rw (ne_eqb b a (λ e. cc (rw (eq-eqb a b (sym e)) at other)), other))

-- the test is the library's, the other way round
same_pointwise : (s t : List ℕ) → same_text s t ≡ pointwise eqb t s
unfolding same_text
same_pointwise [] [] = refl
same_pointwise [] (b ∷ t) = refl
same_pointwise (a ∷ s) [] = refl
same_pointwise (a ∷ s) (b ∷ t) = rw (same_pointwise s t, equal_either_way a b)

-- a text stands at a place exactly where what is left from there starts with it
pub stands_first : (t s : List ℕ) (at : ℕ) → starts_with eqb (slice_range s at (length s)) t ≡ stands_at t s at
stands_first t s at =
    let left : slice_range s at (length s) ≡ drop at s = take_all (length s - at) (drop at s) (simp length-drop (le_refl (length s - at))) in
    ap (λ (l : List ℕ). starts_with eqb l t) left ∙ sym (same_pointwise (part (length t) s at) t)
