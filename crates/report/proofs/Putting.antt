-- Texts put one after the other are one text.
-- Assumes nothing.
use mathlib.Core.Path.{◌≡◌, ap, ◌∙◌}
use mathlib.Core.List.{List, ◌++◌}
use Prim.Native.Nat.{ℕ, ◌+◌, ◌≤◌}
use native.Mathlib.Omega.{arith}
use lib.ListN.{length, length-append}
use Rattle.text.specs.Texts.{placed}
use Rattle.text.proofs.PlacedTexts.{length-placed, placed-next}

-- a text is put at a place, and ends at another
abbrev pub Put : ℕ → List ℕ → List ℕ → ℕ → List ℕ → Type 0
Put at text before end after = (end ≡ at + length text) × (after ≡ placed at text before)

module _ (at : ℕ) (a b out : List ℕ) (fits : at + length (a ++ b) ≤ length out) where
  pub first_fits : at + length a ≤ length out
  first_fits = omega (arith, length-append a b)

  module _ (n : ℕ) (out1 : List ℕ) (first : Put at a out n out1) where
    pub next_fits : n + length b ≤ length out1
    next_fits = omega (arith, first.0, ap length first.1 ∙ length-placed at a out, length-append a b)

    pub both-put : (m : ℕ) (out2 : List ℕ) → Put n b out1 m out2 → Put at (a ++ b) out m out2
    both-put m out2 next = (
      omega (arith, first.0, next.0, length-append a b),
      next.1 ∙ ap (placed n b) first.1 ∙ placed-next at n a b out first.0 (omega (arith, length-append a b)),
    )

module _ (at : ℕ) (a b d out : List ℕ) (fits : at + length (a ++ (b ++ d)) ≤ length out)
    (n : ℕ) (out1 : List ℕ) (first : Put at a out n out1) where
  pub second_fits : n + length b ≤ length out1
  second_fits = first_fits n b d out1 (next_fits at a (b ++ d) out fits n out1 first)

  module _ (m : ℕ) (out2 : List ℕ) (second : Put n b out1 m out2) where
    pub third-fits : m + length d ≤ length out2
    third-fits = next_fits n b d out1 (next_fits at a (b ++ d) out fits n out1 first) m out2 second

    pub three_put : (k : ℕ) (out3 : List ℕ) → Put m d out2 k out3 → Put at (a ++ (b ++ d)) out k out3
    three_put k out3 third =
        both-put at a (b ++ d) out fits n out1 first k out3
        (both-put n b d out1 (next_fits at a (b ++ d) out fits n out1 first) m out2 second k out3 third)
