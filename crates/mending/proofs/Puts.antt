-- Texts put one after the other into an output that takes them all, or is empty, are one text.
-- Assumes nothing.
use mathlib.Core.Path.{◌≡◌, sym, ap, ◌∙◌}
use mathlib.Core.List.{List, [], ◌∷◌, ◌++◌}
use mathlib.Core.Logic.{inl, inr, ⊎_elim}
use Prim.Native.Nat.{ℕ, ◌+◌, ◌≤◌}
use native.Mathlib.Omega.{arith}
use lib.ListN.{length, length-append}
use Rattle.text.specs.Texts.{placed}
use Rattle.text.proofs.PlacedTexts.{length-placed, placed_none, placed_beyond, placed-next}
use Rattle.mending.specs.Putting.{Takes}

-- a text is put at a place, and ends at another
abbrev pub Put : ℕ → List ℕ → List ℕ → ℕ → List ℕ → Type 0
Put at text before end after = (end ≡ at + length text) × (after ≡ placed at text before)

-- what is put into nothing is nothing
pub placed_empty : (at : ℕ) (t out : List ℕ) → length out ≡ 0 → placed at t out ≡ out
placed_empty at [] out none = placed_none at out
placed_empty at (c ∷ t) out none = placed_beyond at (c ∷ t) out (omega arith)

-- the empty text is put everywhere, and changes nothing
pub put-nothing : (at : ℕ) (out : List ℕ) → Put at [] out at out
put-nothing at out = (omega arith, sym (placed_none at out))

-- an output that takes a text takes a shorter one there
pub takes_shorter : (at : ℕ) (t u out : List ℕ) → length u ≤ length t → Takes at t out → Takes at u out
takes_shorter at t u out short takes =
    (omega (arith, takes.0), ⊎_elim (λ fits. inl (omega arith)) (λ none. inr none) takes.1)

module _ (at : ℕ) (t u out : List ℕ) (takes : Takes at (t ++ u) out) where
  -- it takes the first
  pub takes_first : Takes at t out
  takes_first = takes_shorter at (t ++ u) t out (omega (arith, length-append t u)) takes

  -- and the one after it, once the first is put
  pub takes_next : (n : ℕ) (out1 : List ℕ) → Put at t out n out1 → Takes n u out1
  takes_next n out1 first =
      let size : length out1 ≡ length out = ap length first.1 ∙ length-placed at t out in (
        omega (arith, takes.0, first.0, length-append t u),
        ⊎_elim (λ fits. inl (omega (arith, first.0, length-append t u))) (λ none. inr (size ∙ none)) takes.1,
      )

  -- what both come to is one text put
  pub placed_both : (n : ℕ) → n ≡ at + length t → placed n u (placed at t out) ≡ placed at (t ++ u) out
  placed_both n e =
      ⊎_elim
      (λ fits. placed-next at n t u out e (omega (arith, length-append t u)))
      (λ none.
      ap (placed n u) (placed_empty at t out none) ∙ placed_empty n u out none ∙ sym (placed_empty at (t ++ u) out none))
      takes.1

  -- and it ends where the second does
  pub put_both : (n m : ℕ) (out1 out2 : List ℕ) → Put at t out n out1 → Put n u out1 m out2 → Put at (t ++ u) out m out2
  put_both n m out1 out2 first next = (
    omega (arith, first.0, next.0, length-append t u),
    next.1 ∙ ap (placed n u) first.1 ∙ placed_both n first.0,
  )

-- three of them
module _ (at : ℕ) (t u v out : List ℕ) (takes : Takes at (t ++ (u ++ v)) out) (n : ℕ) (out1 : List ℕ) (first : Put at t out n out1) where
  -- the second is taken where the first ends
  pub takes_second : Takes n u out1
  takes_second = takes_first n u v out1 (takes_next at t (u ++ v) out takes n out1 first)

  module _ (m : ℕ) (out2 : List ℕ) (second : Put n u out1 m out2) where
    -- the third where the second ends
    pub takes-third : Takes m v out2
    takes-third = takes_next n u v out1 (takes_next at t (u ++ v) out takes n out1 first) m out2 second

    -- and all are one text put
    pub put_three : (k : ℕ) (out3 : List ℕ) → Put m v out2 k out3 → Put at (t ++ (u ++ v)) out k out3
    put_three k out3 third =
        put_both at t (u ++ v) out takes n k out1 out3 first
        (put_both n u v out1 (takes_next at t (u ++ v) out takes n out1 first) m k out2 out3 second third)
