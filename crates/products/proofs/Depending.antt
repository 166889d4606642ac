-- What an answer depends on: the rows, and of these the cell's own.
-- Assumes nothing.
use mathlib.Core.Path.{◌≡◌, refl, sym, ap, ◌∙◌}
use mathlib.Core.Bool.{Bool, true, false, not, ◌&&◌}
use mathlib.Core.List.{List, [], ◌∷◌}
use mathlib.Core.Logic.{inl, inr}
use Prim.Native.Nat.{ℕ, zero, suc, ◌<◌}
use native.Mathlib.Nat.{le_of_suc-le-suc}
use native.Mathlib.Omega.{arith}
use borrow.Author.Tests.{ltb-true, lt-ltb, eqb-true, eq-eqb, ne_eqb}
use lib.Dec.{ltb, eqb}
use lib.ListN.{length, get_or, length-map}
use Rattle.std.proofs.Common.{Option, Some, Result, Ok}
use Rattle.octets.proofs.Every.{either, and_first, and_second, or_first, or_second, never_both}
use Rattle.forms.specs.Order.{demand}
use Rattle.forms.specs.Refusals.{by, refused}
use Rattle.forms.specs.declared.refusals.Refusal.{Refusal}
use Rattle.product_row.specs.declared.Row.{Row}
use Rattle.product_names.specs.Repeats.{stands_in, repeats}
use Rattle.products.specs.Listing.{is_listing, rows_of}
use Rattle.products.specs.Answers.{is_ships, is_behind, own_row, names_of, standing_by, standing_of}
use Rattle.products.specs.Promises.{RowsDecide, OwnRowDecides, NoOtherRow, Before, BehindIsBefore, OneRowEach, TwiceExactly}
use Rattle.products.specs.declared.standings.Standing.{Standing}
use Rattle.products.specs.declared.standings.Standing.TheVariants.{UpToDate, Behind}

-- lists that are good or bad alike, and have the same rows where they are good
pub same_answers
    : (a b : List ℕ) → is_listing a ≡ is_listing b → (is_listing b ≡ true → rows_of a ≡ rows_of b)
    → (name edition update : ℕ) → standing_of a name edition update ≡ standing_of b name edition update
unfolding standing_of
same_answers a b alike same name edition update =
    either (is_listing b)
    (λ good. rw (alike, same good))
    (λ bad. rw (alike, bad))

pub rows_decide : RowsDecide
rows_decide a b good-a good-b same = same_answers a b (good-a ∙ sym good-b) (λ good. same)

pub own_row_decides : OwnRowDecides
unfolding standing_of
own_row_decides list name edition update ships good = rw (ships, good.0, good.1)

pub no_other_row : NoOtherRow
unfolding standing_of
no_other_row a b name edition update good-a good-b same = rw (good-a.0, good-a.1, good-b.0, good-b.1, same)

module _ (edition update : ℕ) (row : Row) where
  pub is_before : is_behind edition update row ≡ true → Before edition update row
  unfolding is_behind
  is_before e =
      either (ltb edition row.edition)
      (λ lower. inl (ltb-true edition row.edition lower))
      (λ other.
      let rest : (eqb edition row.edition && ltb update row.update) ≡ true = rw other at e in
      inr (
        eqb-true edition row.edition (and_first (eqb edition row.edition) (ltb update row.update) rest),
        ltb-true update row.update (and_second (eqb edition row.edition) (ltb update row.update) rest),
      ))

  pub before_is : Before edition update row → is_behind edition update row ≡ true
  unfolding is_behind
  before_is (inl lower) = rw (lt-ltb edition row.edition lower)
  before_is (inr same) =
      either (ltb edition row.edition)
      (λ lower. rw lower)
      (λ other. rw (other, eq-eqb edition row.edition same.0, lt-ltb update row.update same.1))

-- a row that is not cancelled
by_row : (row : Row) (edition update : ℕ) → (row.edition ≡ 0 → ⊥) → standing_by (Some row) edition update ≡ demand (is_behind edition update row) UpToDate Behind
unfolding standing_by
by_row row edition update on = either (is_behind edition update row) (λ low. rw (ne_eqb row.edition 0 on, low)) (λ up. rw (ne_eqb row.edition 0 on, up))

behind_told : (t : Bool) → demand t UpToDate Behind ≡ Behind → t ≡ true
behind_told true e = refl
behind_told false e = cc

pub behind_is_before : BehindIsBefore
behind_is_before list name edition update row ships good own on =
    let answer : standing_of list name edition update ≡ Ok (demand (is_behind edition update row) UpToDate Behind) =
    own_row_decides list name edition update ships good ∙ ap (λ (o : Option Row). Ok (standing_by o edition update)) own ∙ ap Ok (by_row row edition update on) in (
      λ behind. let told = sym answer ∙ behind in is_before edition update row (behind_told (is_behind edition update row) cc),
      λ before. answer ∙ rw (before_is edition update row before),
    )

-- a name at a place stands among the names
stands_there : (x : ℕ) (names : List ℕ) (i : ℕ) → i < length names → get_or names i 0 ≡ x → stands_in x names ≡ true
unfolding stands_in
stands_there x [] i h e = absurd (omega arith)
stands_there x (y ∷ names) zero h e = rw (eq-eqb x y (sym e))
stands_there x (y ∷ names) (suc i) h e =
    either (eqb x y) (λ same. rw same) (λ other. rw (other, stands_there x names i (le_of_suc-le-suc h) e))

one_place : (names : List ℕ) → repeats names ≡ false → (i j : ℕ) → i < length names → j < length names → get_or names i 0 ≡ get_or names j 0 → i ≡ j
unfolding repeats
one_place [] once i j hi hj e = absurd (omega arith)
one_place (x ∷ names) once zero zero hi hj e = refl
one_place (x ∷ names) once zero (suc j) hi hj e =
    absurd (never_both (stands_in x names) (or_first (stands_in x names) (repeats names) once) (stands_there x names j (le_of_suc-le-suc hj) (sym e)))
one_place (x ∷ names) once (suc i) zero hi hj e =
    absurd (never_both (stands_in x names) (or_first (stands_in x names) (repeats names) once) (stands_there x names i (le_of_suc-le-suc hi) e))
one_place (x ∷ names) once (suc i) (suc j) hi hj e =
    ap suc (one_place names (or_second (stands_in x names) (repeats names) once) i j (le_of_suc-le-suc hi) (le_of_suc-le-suc hj) e)

pub one_row_each : OneRowEach
one_row_each list good i j hi hj e =
    let names = names_of (rows_of list) in
    let size : length names ≡ length (rows_of list) = length-map (rows_of list) (λ (row : Row). row.name) in
    one_place names good.1 i j (omega (arith, size)) (omega (arith, size)) e

-- 110 is the last of the demands
last-refused
    : (a b c : Bool) (s : Standing) → ◌≡◌ {A = Result Standing Refusal} (demand a (refused (by 103)) (demand b (refused (by 12)) (demand (not c) (refused (by 110)) (Ok s)))) (refused (by 110))
    → (a ≡ true) × ((b ≡ true) × (c ≡ true))
last-refused true true true s e = (refl, (refl, refl))
last-refused true true false s e = cc
last-refused true false c s e = cc
last-refused false b c s e = cc

pub twice_exactly : TwiceExactly
unfolding standing_of
twice_exactly list name edition update = (
  λ told.
      last-refused (is_ships name edition update) (is_listing list) (repeats (names_of (rows_of list))) (standing_by (own_row name (rows_of list)) edition update) told,
  λ ships good two. rw (ships, good, two),
)
