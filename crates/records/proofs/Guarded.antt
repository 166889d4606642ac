-- A record is put in, or taken out, where its place is among the records and the bytes have room; else they stay as they were.
-- Assumes nothing.
use mathlib.Core.Path.{◌≡◌, refl, sym, ap, ap₂, ◌∙◌}
use mathlib.Core.List.{List, ◌++◌, append-nil}
use Prim.Native.Nat.{ℕ, suc, ◌+◌, ◌-◌, ◌≤◌, ◌<◌}
use native.Mathlib.Omega.{arith}
use borrow.Author.Tests.{le-leb, lt-leb, lt-ltb, le-ltb}
use lib.ListN.{length, take, drop, length-drop}
use lib.Seq.{take-length, drop-length}
use Rattle.tenants.specs.Together.{BookRecord}
use Rattle.layout.specs.Layout.{record_size, used_length, record_place, record_count}
use Rattle.records.specs.Moves.{moved_up, first_removed, used_put, record_put, inserted_among, removed_among, record_inserted, record_removed}

-- the part from a place on, as it is lent and as the whole has it when it comes back
abbrev lent : ℕ → List ℕ → List ℕ
lent at s = take (length s - at) (drop at s)

abbrev back : ℕ → List ℕ → List ℕ → List ℕ
back at p s = take at s ++ (p ++ drop (length s - at) (drop at s))

-- what a change of the lent part makes of the whole
part-changed : (change : List ℕ → List ℕ) (at : ℕ) (p s : List ℕ) → p ≡ change (lent at s) → back at p s ≡ take at s ++ change (drop at s)
part-changed change at p s e =
    ap (λ (m : ℕ). take at s ++ (p ++ drop m (drop at s))) rest
    ∙ ap (λ (l : List ℕ). take at s ++ (p ++ l)) (drop-length (drop at s))
    ∙ ap (λ (l : List ℕ). take at s ++ l)
    (append-nil p ∙ e ∙ ap change (ap (λ (m : ℕ). take m (drop at s)) rest ∙ take-length (drop at s)))
  where
    rest : length s - at ≡ length (drop at s)
    rest = sym (length-drop at s)

-- n records are told, and the record has number i
module _ (s : List ℕ) (n i : ℕ) (told : n ≡ record_count s) where
  module _ (r : BookRecord) where
    -- a gap is opened, the record written in it, and the used length
    pub put_in : i ≤ n → used_length n + record_size ≤ length s → (p s₁ s₂ : List ℕ)
        → p ≡ moved_up record_size (used_length n - record_place i) (lent (record_place i) s)
        → s₁ ≡ record_put i r (back (record_place i) p s) → s₂ ≡ used_put (used_length n + record_size) s₁ → s₂ ≡ record_inserted i r s
    unfolding record_inserted
    put_in within room p s₁ s₂ e₁ e₂ e₃ =
        let size : used_length n + record_size ≡ used_length (suc n) = omega arith in
        let fits : used_length (suc (record_count s)) ≤ length s = omega arith in
        rw (le-leb i (record_count s) (omega arith), le-leb (used_length (suc (record_count s))) (length s) fits)
        (e₃
        ∙ ap₂ used_put size (e₂ ∙ ap (record_put i r) (part-changed (moved_up record_size (used_length n - record_place i)) (record_place i) p s e₁))
        ∙ ap (λ (m : ℕ). inserted_among m i r s) told)

    pub put-too-far : n < i → s ≡ record_inserted i r s
    unfolding record_inserted
    put-too-far far = rw (lt-leb i (record_count s) (omega arith)) refl

    pub no_room : length s < used_length n + record_size → i ≤ n → s ≡ record_inserted i r s
    unfolding record_inserted
    no_room full within =
        let over : length s < used_length (suc (record_count s)) = omega arith in
        rw (le-leb i (record_count s) (omega arith), lt-leb (used_length (suc (record_count s))) (length s) over) refl

  -- the gap is closed, and the used length written
  pub taken_out : i < n → used_length n ≤ length s → (p s₁ : List ℕ)
      → p ≡ first_removed record_size (used_length n - record_size - record_place i) (lent (record_place i) s)
      → s₁ ≡ used_put (used_length n - record_size) (back (record_place i) p s) → s₁ ≡ record_removed i s
  unfolding record_removed
  taken_out within room p s₁ e₁ e₂ =
      let size : used_length n - record_size ≡ used_length (n - 1) = omega arith in
      let fits : used_length (record_count s) ≤ length s = omega arith in
      rw (lt-ltb i (record_count s) (omega arith), le-leb (used_length (record_count s)) (length s) fits)
      (e₂
      ∙ ap₂ used_put size (part-changed (first_removed record_size (used_length n - record_size - record_place i)) (record_place i) p s e₁)
      ∙ ap (λ (m : ℕ). removed_among m i s) told)

  pub none_there : n ≤ i → s ≡ record_removed i s
  unfolding record_removed
  none_there far = rw (le-ltb i (record_count s) (omega arith)) refl

  pub not_within : length s < used_length n → i < n → s ≡ record_removed i s
  unfolding record_removed
  not_within short within =
      let over : length s < used_length (record_count s) = omega arith in
      rw (lt-ltb i (record_count s) (omega arith), lt-leb (used_length (record_count s)) (length s) over) refl
