-- What a line gives, put into both outputs.
-- Assumes nothing.
use mathlib.Core.Path.{◌≡◌, ap₂, subst, sym}
use mathlib.Core.Bool.{Bool}
use mathlib.Core.List.{List}
use Prim.Native.Nat.{ℕ}
use Rattle.mended_lines.specs.Gives.{Gives}
use Rattle.mended_lines.specs.Giving.{given, out_after, list_after}
use Rattle.mended_lines.specs.declared.Places.{Places}
use Rattle.mended_lines.specs.declared.Given.{Given}
use Rattle.mended_lines.proofs.TwoParts.{Put}

-- both outputs hold what a line gives, and the answer says how much that is
abbrev pub Gave : Gives → Places → List ℕ → List ℕ → Given → List ℕ → List ℕ → Type 0
Gave g at out list r out1 list1 = (r ≡ given g) × ((out1 ≡ out_after g at out) × (list1 ≡ list_after g at list))

-- an answer by its parts
abbrev given_as : ℕ → ℕ → Bool → Given
given_as file list more = record { file = file; list = list; more = more }

module _ (g h : Gives) (same : g ≡ h) (at : Places) (out list : List ℕ) where
  -- two lines that give the same are answered alike
  pub same_gave : (r : Given) (out1 list1 : List ℕ) → Gave h at out list r out1 list1 → Gave g at out list r out1 list1
  same_gave r out1 list1 gave = subst (λ (x : Gives). Gave x at out list r out1 list1) (sym same) gave

  -- what is put into each output alone is put into both
  pub gave_both : (f l : ℕ) (out1 list1 : List ℕ) → Put at.file h.file out f out1 → Put at.list h.list list l list1
      → Gave g at out list (record { file = f; list = l; more = h.more }) out1 list1
  gave_both f l out1 list1 in_file_lem in_List =
      same_gave (given_as f l h.more) out1 list1
      (ap₂ (λ (a b : ℕ). given_as a b h.more) in_file_lem.0 in_List.0, (in_file_lem.1, in_List.1))
