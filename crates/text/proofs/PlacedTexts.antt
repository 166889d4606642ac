-- Texts put at a place of a slice: what stands there, byte by byte from either end, and how neighbours join.
-- Assumes nothing.
use Rattle.std.proofs.Common.{◌≡◌, ℕ, suc, ◌+◌, ◌<◌, ◌≤◌, leb, List, [], ◌∷◌, ◌++◌, length, take, drop, set, sym, ap, ap₂, ◌∙◌, drop-drop, append_assoc, append-nil, add-zero, add-suc, suc-add, zero-add, arith, length-append, length-drop, length-set, take-append-drop, drop_of_length-le, length-take-le, take-suc-set, drop-set-lt, le-leb, leb-false, leb-true}
use borrow.Author.Tests.{lt-leb}
use borrow.Rule.Slice.PartMut.{put_mid}
use Rattle.octets.proofs.Every.{either}
use Rattle.text.specs.Texts.{placed}

module _ (at : ℕ) (t s : List ℕ) where
  pub placed-within : at + length t ≤ length s → placed at t s ≡ take at s ++ (t ++ drop (at + length t) s)
  unfolding placed
  placed-within h = rw (le-leb (at + length t) (length s) h)

  pub placed_beyond : length s < at + length t → placed at t s ≡ s
  unfolding placed
  placed_beyond h = rw (lt-leb (at + length t) (length s) h)

  pub length-placed : length (placed at t s) ≡ length s
  length-placed =
      either (leb (at + length t) (length s))
      (λ e. let h : at + length t ≤ length s = leb-true _ _ e in
      ap length (placed-within h)
      ∙ simp (length-append, length-drop) (omega (arith, length-take-le at s (omega arith))))
      (λ e. ap length (placed_beyond (leb-false _ _ e)))

-- a part of the text's length, written over with the text
pub placed_mid : (at k : ℕ) (s new t : List ℕ) → at + length t ≤ length s → k ≡ length t → new ≡ t → put_mid at k s new ≡ placed at t s
placed_mid at k s new t within count is =
    ap₂ (λ (m : ℕ) (l : List ℕ). put_mid at m s l) count is
    ∙ ap (λ (l : List ℕ). take at s ++ (t ++ l)) (drop-drop (length t) at s)
    ∙ sym (placed-within at t s within)

pub placed_none : (at : ℕ) (s : List ℕ) → placed at [] s ≡ s
placed_none at s =
    either (leb (at + 0) (length s))
    (λ e. placed-within at [] s (leb-true _ _ e) ∙ ap (λ (n : ℕ). take at s ++ drop n s) (add-zero at) ∙ take-append-drop at s)
    (λ e. placed_beyond at [] s (leb-false _ _ e))

pub placed_start : (t s : List ℕ) → length t ≤ length s → placed 0 t s ≡ t ++ drop (length t) s
placed_start t s h = placed-within 0 t s (omega arith) ∙ ap (λ (n : ℕ). t ++ drop n s) (zero-add (length t))

-- a text put over a slice of its own length
pub placed_whole : (t s : List ℕ) → length t ≡ length s → placed 0 t s ≡ t
placed_whole t s size =
    let all : length s ≤ length t = omega arith in
    placed_start t s (omega arith) ∙ ap (λ (l : List ℕ). t ++ l) (drop_of_length-le s all) ∙ append-nil t

-- the first byte, and then the rest one place further
pub placed_first : (at v : ℕ) (t s : List ℕ) → at + suc (length t) ≤ length s → placed (suc at) t (set s at v) ≡ placed at (v ∷ t) s
placed_first at v t s h =
    placed-within (suc at) t (set s at v) (simp length-set (omega arith))
    ∙ rw (take-suc-set s at v (omega arith), drop-set-lt (suc at + length t) s at v (omega arith), append_assoc)
    (ap (λ (n : ℕ). take at s ++ (v ∷ (t ++ drop n s))) (suc-add at (length t) ∙ sym (add-suc at (length t))))
    ∙ sym (placed-within at (v ∷ t) s h)

-- a text and one put after it are one text
pub placed-next : (at n : ℕ) (t u s : List ℕ) → n ≡ at + length t → at + (length t + length u) ≤ length s
    → placed n u (placed at t s) ≡ placed at (t ++ u) s
placed-next at n [] u s e h =
    ap (λ (m : ℕ). placed m u (placed at [] s)) (e ∙ add-zero at) ∙ ap (placed at u) (placed_none at s)
placed-next at n (v ∷ t) u s e h =
    ap (placed n u) (sym (placed_first at v t s (omega arith)))
    ∙ placed-next (suc at) n t u (set s at v) (e ∙ add-suc at (length t) ∙ sym (suc-add at (length t))) (simp length-set (omega arith))
    ∙ placed_first at v (t ++ u) s (simp length-append (omega arith))
