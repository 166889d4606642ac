-- A text raised where it stands, and raised as it is put. Assumes nothing.
use Rattle.std.proofs.Common.{◌≡◌, ℕ, suc, ◌+◌, ◌<◌, ◌≤◌, List, [], ◌∷◌, ◌++◌, length, get_or, take, drop, set, replicate, sym, ap, ◌∙◌, add-one, append_assoc, append-nil, arith, drop_of_length-le, take_all, drop-cons, take-suc-set, drop-set-lt}
use lib.ListN.{length-map, length-replicate}
use Rattle.text.specs.Characters.{raised, raised_text}
use Rattle.text.specs.Texts.{placed}
use Rattle.text.proofs.PlacedTexts.{placed_whole, placed_beyond}

-- of the bytes of s, the first i are raised
abbrev pub RaisedTo : List ℕ → List ℕ → ℕ → Type 0
RaisedTo s after i = take i after ++ raised_text (drop i after) ≡ raised_text s

pub raised_more : (s after : List ℕ) (i v : ℕ) → i < length after → v ≡ raised (get_or after i 0) → RaisedTo s after i
    → RaisedTo s (set after i v) (i + 1)
raised_more s after i v more is so_far =
    let size : i + 1 ≡ suc i = add-one i in
    ap (λ (k : ℕ). take k (set after i v) ++ raised_text (drop k (set after i v))) size
    ∙ ap (λ (l : List ℕ). l ++ raised_text (drop (suc i) (set after i v))) (take-suc-set after i v more)
    ∙ ap (λ (l : List ℕ). (take i after ++ (v ∷ [])) ++ raised_text l) (drop-set-lt (suc i) after i v (omega arith))
    ∙ append_assoc (take i after) (v ∷ []) (raised_text (drop (suc i) after))
    ∙ ap (λ (w : ℕ). take i after ++ (w ∷ raised_text (drop (suc i) after))) is
    ∙ ap (λ (l : List ℕ). take i after ++ raised_text l) (sym (drop-cons after i 0 more))
    ∙ so_far

pub raised_all : (s after : List ℕ) (i : ℕ) → length after ≤ i → RaisedTo s after i → after ≡ raised_text s
raised_all s after i done so_far =
    sym (append-nil after)
    ∙ ap (λ (l : List ℕ). l ++ []) (sym (take_all i after done))
    ∙ ap (λ (l : List ℕ). take i after ++ raised_text l) (sym (drop_of_length-le after done))
    ∙ so_far

pub raised_beyond : (at : ℕ) (t before : List ℕ) → length before < at + length t → placed at (raised_text t) before ≡ before
raised_beyond at t before beyond = placed_beyond at (raised_text t) before (simp length-map beyond)

-- put over an array of its own length, it is what the array holds
pub raised_whole : (n : ℕ) (t after : List ℕ) → length t ≡ n → after ≡ placed 0 (raised_text t) (replicate n 0) → after ≡ raised_text t
raised_whole n t after size put =
    put ∙ placed_whole (raised_text t) (replicate n 0) (length-map t raised ∙ size ∙ sym (length-replicate n 0))
