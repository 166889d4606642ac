-- Things of one size, written one after the other: how many bytes they have, where each is read, and that what is written is read back.
-- Assumes nothing.
use mathlib.Core.Path.{◌≡◌, refl, sym, ap, ap₂, ◌∙◌}
use mathlib.Core.List.{List, [], ◌∷◌, ◌++◌, append_assoc}
use Prim.Native.Nat.{ℕ, zero, suc, ◌+◌, ◌*◌, ◌≤◌, ◌<◌}
use native.Mathlib.Nat.{add-zero, zero-add, add-suc, suc-add, add_comm, mul-zero, mul-suc}
use native.Mathlib.Omega.{arith}
use lib.ListN.{length, get_or, length-append}
use Rattle.text.specs.Texts.{part}
use Rattle.text.proofs.TextsAt.{part_join}
use Rattle.layout.specs.Layout.{all_bytes, each_from}

-- each of a list
abbrev pub Each : {A : Type 0} → (A → Type 0) → List A → Type 0
Each Holds [] = Unit {0}
Each Holds (x ∷ l) = Holds x × Each Holds l

module _ {A : Type 0} (at : ℕ → A) where
  pub each_count : (i n : ℕ) → length (each_from at i n) ≡ n
  unfolding each_from
  each_count i zero = refl
  each_count i (suc n) = ap suc (each_count (suc i) n)

  further_on : (i n k : ℕ) (none : A) → k < n → get_or (each_from at i n) k none ≡ at (i + k)
  unfolding each_from
  further_on i zero k none h = absurd (omega arith)
  further_on i (suc n) zero none h = ap at (sym (add-zero i))
  further_on i (suc n) (suc k) none h = further_on (suc i) n k none (omega arith) ∙ ap at (suc-add i k ∙ sym (add-suc i k))

  pub each_is : (n k : ℕ) (none : A) → k < n → get_or (each_from at 0 n) k none ≡ at k
  each_is n k none h = further_on 0 n k none h ∙ ap at (zero-add k)

pub bytes_append : {A : Type 0} (bytes : A → List ℕ) (front back : List A)
    → all_bytes bytes (front ++ back) ≡ all_bytes bytes front ++ all_bytes bytes back
unfolding all_bytes
bytes_append bytes [] back = refl
bytes_append bytes (x ∷ front) back =
    rw (bytes_append bytes front back) (sym (append_assoc (bytes x) (all_bytes bytes front) (all_bytes bytes back)))

-- two parts that meet
pub meet : (m n : ℕ) (s : List ℕ) (at next : ℕ) → next ≡ at + m → part m s at ++ part n s next ≡ part (m + n) s at
meet m n s at next e = ap (λ (k : ℕ). part m s at ++ part n s k) e ∙ sym (part_join m n s at)

module _ (size : ℕ) {A : Type 0} (bytes : A → List ℕ) where
  one_more : (n : ℕ) → size + size * n ≡ size * suc n
  one_more n = add_comm size (size * n) ∙ sym (mul-suc size n)

  module _ (sized : (x : A) → length (bytes x) ≡ size) where
    pub bytes-size : (l : List A) → length (all_bytes bytes l) ≡ size * length l
    unfolding all_bytes
    bytes-size [] = sym (mul-zero size)
    bytes-size (x ∷ l) =
        length-append (bytes x) (all_bytes bytes l) ∙ ap₂ (λ (m n : ℕ). m + n) (sized x) (bytes-size l) ∙ one_more (length l)

  -- each has its place, after the one before it
  module _ (place : ℕ → ℕ) (next : (i : ℕ) → place (suc i) ≡ place i + size) where
    -- where each is written as it stands, so are all
    pub each-written : (at : ℕ → A) (s : List ℕ) (i n : ℕ) → ((k : ℕ) → i ≤ k → k < i + n → bytes (at k) ≡ part size s (place k))
        → all_bytes bytes (each_from at i n) ≡ part (size * n) s (place i)
    unfolding all_bytes each_from
    each-written at s i zero one = ap (λ (k : ℕ). part k s (place i)) (sym (mul-zero size))
    each-written at s i (suc n) one =
        ap₂ (λ (a b : List ℕ). a ++ b) (one i (omega arith) (omega arith))
        (each-written at s (suc i) n (λ k low high. one k (omega arith) (omega arith)))
        ∙ meet size (size * n) s (place i) (place (suc i)) (next i)
        ∙ ap (λ (k : ℕ). part k s (place i)) (one_more n)

    -- where one that fits is read back wherever it is written, so are all
    module _ (sized : (x : A) → length (bytes x) ≡ size) (Fits : A → Type 0) (at : List ℕ → ℕ → A)
        (one : (x : A) (i : ℕ) (front back : List ℕ) → length front ≡ place i → Fits x → at (front ++ (bytes x ++ back)) i ≡ x) where
      pub each_back : (l : List A) (i : ℕ) (front back : List ℕ) → length front ≡ place i → Each Fits l
          → each_from (at (front ++ (all_bytes bytes l ++ back))) i (length l) ≡ l
      unfolding all_bytes each_from
      each_back [] i front back start fits = refl
      each_back (x ∷ l) i front back start fits =
          let here : front ++ (bytes x ++ all_bytes bytes l ++ back) ≡ front ++ (bytes x ++ (all_bytes bytes l ++ back)) = simp append_assoc in
          let after : front ++ (bytes x ++ all_bytes bytes l ++ back) ≡ (front ++ bytes x) ++ (all_bytes bytes l ++ back) = simp append_assoc in
          ap₂ (λ (y : A) (k : List A). y ∷ k)
          (ap (λ (s : List ℕ). at s i) here ∙ one x i front (all_bytes bytes l ++ back) start fits.0)
          (ap (λ (s : List ℕ). each_from (at s) (suc i) (length l)) after
          ∙ each_back l (suc i) (front ++ bytes x) back
          (length-append front (bytes x) ∙ ap₂ (λ (m n : ℕ). m + n) start (sized x) ∙ sym (next i)) fits.1)
