-- The marks of names: their places lie among the marks, and a name that is marked stays so.
-- Assumes nothing.
use Rattle.std.proofs.Common.{◌≡◌, ℕ, ◌*◌, ◌^◌, ◌<◌, true, false, ◌||◌, eqb, List, [], ◌∷◌, ◌++◌, length, get_or, set, fold, sym, refl, ap, ◌∙◌, lt_of_le_of_lt, le_of_lt, mul-le-mul_left, mul-lt-mul_of_pos_right, arith, length-set, get_or-set_other, get_or-set_same, eq-eqb, eqb-true}
use Rattle.std.specs.List.{list_all}
use borrow.Author.Tests.{eqb-false}
use lib.Seq.{set-get_or}
use Rattle.octets.proofs.Every.{and_first, and_second, either}
use Rattle.product_names.specs.Repeats.{stands_in}
use Rattle.product_names.specs.Marking.{mark_place, is_set, is_marked, with_set, marked, factors}
use Rattle.product_names.specs.Blocks.{AllMarked}
use Rattle.product_names.proofs.BlockLaws.{stands_last}

-- the product of two halves of a number fits
pub halves_fit : (a b : ℕ) → a < 2 ^ 32 → b < 2 ^ 32 → a * b < 2 ^ 64
halves_fit a b ha hb =
    let most : 0 < 2 ^ 32 = omega arith in
    lt_of_le_of_lt (mul-le-mul_left a (le_of_lt hb)) (mul-lt-mul_of_pos_right ha most)

pub place_within : (factor name : ℕ) → mark_place factor name < 262144
unfolding mark_place
place_within factor name = omega arith

new_set : (marks : List ℕ) → length marks ≡ 262144 → (factor name : ℕ) → is_set (with_set factor name marks) factor name ≡ true
new_set marks size factor name =
    let within : mark_place factor name < length marks = omega (arith, place_within factor name) in
    eq-eqb (get_or (set marks (mark_place factor name) 1) (mark_place factor name) 0) 1 (get_or-set_same marks (mark_place factor name) 1 0 within)

-- a mark that is set stays set
stays_one : (marks : List ℕ) (place other : ℕ) → get_or marks other 0 ≡ 1 → get_or (set marks place 1) other 0 ≡ 1
stays_one marks place other one =
    either (eqb other place)
    (λ same.
    let again : set marks place 1 ≡ marks =
    ap (λ (n : ℕ). set marks n 1) (sym (eqb-true other place same)) ∙ ap (set marks other) (sym one) ∙ set-get_or marks other 0 in
    ap (λ (l : List ℕ). get_or l other 0) again ∙ one)
    (λ apart. get_or-set_other marks place other 1 0 (eqb-false other place apart) ∙ one)

stays_set : (marks : List ℕ) (factor name f y : ℕ) → is_set marks f y ≡ true → is_set (with_set factor name marks) f y ≡ true
stays_set marks factor name f y before =
    eq-eqb (get_or (set marks (mark_place factor name) 1) (mark_place f y) 0) 1
    (stays_one marks (mark_place factor name) (mark_place f y) (eqb-true (get_or marks (mark_place f y) 0) 1 before))

-- the marks of a name by some factors
abbrev all_set : List ℕ → ℕ → List ℕ → List ℕ
all_set fs name marks = fold (λ (set : List ℕ) (factor : ℕ). with_set factor name set) marks fs

length_all : (fs : List ℕ) (name : ℕ) (marks : List ℕ) → length (all_set fs name marks) ≡ length marks
length_all [] name marks = refl
length_all (f ∷ fs) name marks = length_all fs name (with_set f name marks) ∙ length-set marks (mark_place f name) 1

pub length_marked : (name : ℕ) (marks : List ℕ) → length (marked name marks) ≡ length marks
unfolding marked
length_marked name marks = length_all factors name marks

all_stay : (fs : List ℕ) (name : ℕ) (marks : List ℕ) (f y : ℕ) → is_set marks f y ≡ true → is_set (all_set fs name marks) f y ≡ true
all_stay [] name marks f y before = before
all_stay (g ∷ fs) name marks f y before = all_stay fs name (with_set g name marks) f y (stays_set marks g name f y before)

-- more marks are set, and those that were set stay so
module _ (marks after : List ℕ) (y : ℕ) (stays : (f : ℕ) → is_set marks f y ≡ true → is_set after f y ≡ true) where
  each_stays : (fs : List ℕ) → list_all (λ (f : ℕ). is_set marks f y) fs ≡ true → list_all (λ (f : ℕ). is_set after f y) fs ≡ true
  each_stays [] before = refl
  each_stays (f ∷ fs) before =
      let rest = list_all (λ (g : ℕ). is_set marks g y) fs in
      rw (stays f (and_first (is_set marks f y) rest before)) (each_stays fs (and_second (is_set marks f y) rest before))

all_new : (fs : List ℕ) (name : ℕ) (marks : List ℕ) → length marks ≡ 262144 → list_all (λ (f : ℕ). is_set (all_set fs name marks) f name) fs ≡ true
all_new [] name marks size = refl
all_new (f ∷ fs) name marks size =
    let one = with_set f name marks in
    let same : length one ≡ 262144 = length-set marks (mark_place f name) 1 ∙ size in
    rw (all_stay fs name one f name (new_set marks size f name)) (all_new fs name one same)

module _ (marks : List ℕ) (name : ℕ) where
  stays_marked : (y : ℕ) → is_marked marks y ≡ true → is_marked (marked name marks) y ≡ true
  unfolding is_marked marked
  stays_marked y = each_stays marks (all_set factors name marks) y (λ f. all_stay factors name marks f y) factors

  module _ (size : length marks ≡ 262144) where
    new-marked : is_marked (marked name marks) name ≡ true
    unfolding is_marked marked
    new-marked = all_new factors name marks size

    -- a name comes to a block, and is marked
    pub more-marked : (block : List ℕ) → AllMarked marks block → AllMarked (marked name marks) (block ++ (name ∷ []))
    more-marked block all y stands =
        let split : (stands_in y block || eqb y name) ≡ true = sym (stands_last y block name) ∙ stands in
        either (stands_in y block)
        (λ before. stays_marked y (all y before))
        (λ new.
        let last : eqb y name ≡ true = rw new at split in
        ap (is_marked (marked name marks)) (eqb-true y name last) ∙ new-marked)

-- what is not marked does not stand in a block of marked names
pub unmarked : (marks block : List ℕ) → AllMarked marks block → (x : ℕ) → is_marked marks x ≡ false → stands_in x block ≡ false
unmarked marks block all x not_set = either (stands_in x block) (λ stands. stands ∙ sym (all x stands) ∙ not_set) (λ new. new)
