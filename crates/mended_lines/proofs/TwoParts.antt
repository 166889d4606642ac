-- A text of two parts, put at a place: one after the other where the whole of it lies within the output, and nothing where it does not.
-- Assumes nothing.
use mathlib.Core.Path.{◌≡◌, refl, sym, ap, subst, ◌∙◌}
use mathlib.Core.Bool.{Bool, true, false}
use mathlib.Core.List.{List, ◌++◌}
use Prim.Native.Nat.{ℕ, ◌+◌, ◌≤◌}
use native.Mathlib.Omega.{arith}
use borrow.Author.Tests.{leb-true}
use lib.Dec.{leb}
use lib.ListN.{length, length-append, length-map}
use Rattle.text.specs.Characters.{raised}
use Rattle.text.specs.Texts.{placed}
use Rattle.text.proofs.PlacedTexts.{placed-next}
use Rattle.mailed_lines.proofs.PutLines.{not-put}
use Rattle.mended_lines.specs.Giving.{cased}

-- a text is put at a place, and has so many bytes
abbrev pub Put : ℕ → List ℕ → List ℕ → ℕ → List ℕ → Type 0
Put at text out size after = (size ≡ length text) × (after ≡ placed at text out)

-- the same text is put alike
pub same_put : (t u : List ℕ) → t ≡ u → (at : ℕ) (out : List ℕ) (n : ℕ) (after : List ℕ) → Put at u out n after → Put at t out n after
same_put t u same at out n after put = subst (λ (x : List ℕ). Put at x out n after) (sym same) put

-- the two parts, and what was told of whether the whole lies within
module _ (at : ℕ) (t u out : List ℕ) (size : ℕ) (whole : size ≡ length (t ++ u)) (told : Bool) (is : told ≡ leb (at + size) (length out)) where
  -- it does
  module _ (fits : told ≡ true) where
    pub both-fit : at + (length t + length u) ≤ length out
    both-fit = omega (arith, leb-true (at + size) (length out) (sym is ∙ fits), whole, length-append t u)

    pub both-put : (n : ℕ) (out1 out2 : List ℕ) → n ≡ length t → out1 ≡ placed at t out → out2 ≡ placed (at + n) u out1 → Put at (t ++ u) out size out2
    both-put n out1 out2 first_size first next = (
      whole,
      next ∙ ap (placed (at + n) u) first ∙ placed-next at (at + n) t u out (ap (λ (k : ℕ). at + k) first_size) both-fit,
    )

  -- it does not
  pub none_put : told ≡ false → Put at (t ++ u) out size out
  none_put beyond = (whole, not-put at size (t ++ u) out whole (sym is ∙ beyond))

-- a text is as long with its letters raised
pub cased-length : (raise : Bool) (text : List ℕ) → length text ≡ length (cased raise text)
cased-length true text = sym (length-map text raised)
cased-length false text = refl

-- so it and one after it are as long
pub two_size : (raise : Bool) (text after : List ℕ) → length text + length after ≡ length (cased raise text ++ after)
two_size raise text after = omega (arith, length-append (cased raise text) after, cased-length raise text)
