-- Whether a name stands among others: looked for one by one, and rows held against a block of names.
-- Assumes nothing.
use Rattle.std.proofs.Common.{◌≡◌, ℕ, suc, ◌+◌, ◌<◌, ◌≤◌, Bool, true, false, ◌||◌, eqb, List, [], ◌∷◌, ◌++◌, length, get_or, drop, sym, refl, ap, ◌∙◌, add-one, drop_of_length-le, drop-cons, eq-eqb, eqb-true}
use mathlib.Core.Bool.{or_assoc, or-false}
use Rattle.octets.proofs.Every.{same_tests}
use Rattle.product_names.specs.Repeats.{stands_in, repeats}
use Rattle.product_names.specs.Blocks.{any_in}

same_way_round : (a b : ℕ) → eqb a b ≡ eqb b a
same_way_round a b =
    same_tests (eqb a b) (eqb b a)
    (λ same. eq-eqb b a (sym (eqb-true a b same)))
    (λ same. eq-eqb a b (sym (eqb-true b a same)))

crossed : (a b c d : Bool) → (a || b || (c || d)) ≡ (a || c || (b || d))
crossed true b c d = refl
crossed false true true d = refl
crossed false true false d = refl
crossed false false c d = refl

module _ (x : ℕ) (names : List ℕ) (i : ℕ) (found : Bool) where
  pub next_name : i < length names → (found || eqb x (get_or names i 0) || stands_in x (drop (i + 1) names)) ≡ (found || stands_in x (drop i names))
  unfolding stands_in
  next_name h = rw (drop-cons names i 0 h, add-one i) (or_assoc found (eqb x (get_or names i 0)) (stands_in x (drop (suc i) names)))

  pub all_names : length names ≤ i → found ≡ (found || stands_in x (drop i names))
  unfolding stands_in
  all_names h = rw (drop_of_length-le names h) (sym (or-false found))

pub stands_last : (x : ℕ) (block : List ℕ) (y : ℕ) → stands_in x (block ++ (y ∷ [])) ≡ (stands_in x block || eqb x y)
unfolding stands_in
stands_last x [] y = or-false (eqb x y)
stands_last x (z ∷ block) y = ap (λ (b : Bool). eqb x z || b) (stands_last x block y) ∙ sym (or_assoc (eqb x z) (stands_in x block) (eqb x y))

pub none_in_none : (rows : List ℕ) → any_in [] rows ≡ false
unfolding any_in stands_in
none_in_none [] = refl
none_in_none (x ∷ rows) = none_in_none rows

any_last : (block : List ℕ) (x : ℕ) (rows : List ℕ) → any_in (block ++ (x ∷ [])) rows ≡ (any_in block rows || stands_in x rows)
unfolding any_in stands_in
any_last block x [] = refl
any_last block x (r ∷ rows) =
    rw (stands_last r block x, any_last block x rows, same_way_round r x)
    (crossed (stands_in r block) (eqb x r) (any_in block rows) (stands_in x rows))

module _ (block : List ℕ) (x : ℕ) (rows : List ℕ) where
  pub any_first : stands_in x block ≡ true → any_in block (x ∷ rows) ≡ true
  unfolding any_in
  any_first found = rw found

  module _ (new : stands_in x block ≡ false) where
    pub any-rest : any_in block (x ∷ rows) ≡ any_in block rows
    unfolding any_in
    any-rest = rw new

    -- a new name goes over from the rows to the block
    pub goes_over : (any_in block (x ∷ rows) || repeats (x ∷ rows)) ≡ (any_in (block ++ (x ∷ [])) rows || repeats rows)
    unfolding repeats
    goes_over =
        ap (λ (b : Bool). b || (stands_in x rows || repeats rows)) any-rest
        ∙ sym (or_assoc (any_in block rows) (stands_in x rows) (repeats rows))
        ∙ ap (λ (b : Bool). b || repeats rows) (sym (any_last block x rows))
