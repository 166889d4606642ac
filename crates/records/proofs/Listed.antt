-- What entering and withdrawing make of records in order, by the records around the full name's place.
-- Assumes nothing.
use mathlib.Core.Path.{◌≡◌, refl, sym, ap, ◌∙◌}
use mathlib.Core.List.{List, [], ◌∷◌, ◌++◌}
use Prim.Native.Nat.{ℕ, ◌<◌}
use native.Mathlib.Omega.{arith}
use Rattle.tenants.specs.Cells.{entered, withdrawn}
use Rattle.tenants.specs.Together.{BookRecord}
use Rattle.tenants.proofs.Ordered.{Below, entered_first, entered_same, entered_behind, withdrawn_same, withdrawn_other}
use Rattle.records.proofs.Found.{Here, Gone}

-- records of lower names are passed
entered_past : (c : BookRecord) (front l : List BookRecord) → Below c.name front → entered c (front ++ l) ≡ front ++ entered c l
entered_past c [] l below = refl
entered_past c (r ∷ front) l below =
    entered_behind c r (front ++ l) below.0 ∙ ap (λ (k : List BookRecord). r ∷ k) (entered_past c front l below.1)

withdrawn_past : (full : ℕ) (front l : List BookRecord) → Below full front → withdrawn full (front ++ l) ≡ front ++ withdrawn full l
withdrawn_past full [] l below = refl
withdrawn_past full (r ∷ front) l below =
    let low : r.name < full = below.0 in
    withdrawn_other full r (front ++ l) (λ e. omega arith) ∙ ap (λ (k : List BookRecord). r ∷ k) (withdrawn_past full front l below.1)

module _ (c : BookRecord) (records : List BookRecord) (i : ℕ) where
  -- a held name is replaced where it stands
  pub entered_here : (h : Here c.name records i) → entered c records ≡ h.front ++ (c ∷ h.back)
  entered_here h =
      ap (entered c) h.whole
      ∙ entered_past c h.front (h.it ∷ h.back) h.below
      ∙ ap (λ (l : List BookRecord). h.front ++ l) (entered_same c h.it h.back (sym h.name))

  -- a new one comes between those below and those above it
  pub entered_gone : (h : Gone c.name records i) → entered c records ≡ h.front ++ (c ∷ h.back)
  entered_gone h =
      ap (entered c) h.whole
      ∙ entered_past c h.front h.back h.below
      ∙ ap (λ (l : List BookRecord). h.front ++ l) (entered_first c h.back h.above)

-- and those around a withdrawn one stay
pub withdrawn_here : (full : ℕ) (records : List BookRecord) (i : ℕ) (h : Here full records i) → withdrawn full records ≡ h.front ++ h.back
withdrawn_here full records i h =
    ap (withdrawn full) h.whole
    ∙ withdrawn_past full h.front (h.it ∷ h.back) h.below
    ∙ ap (λ (l : List BookRecord). h.front ++ l) (withdrawn_same full h.it h.back (sym h.name))
