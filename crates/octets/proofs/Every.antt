-- What a test of every byte says of each of them. Assumes nothing.
use mathlib.Core.Path.{◌≡◌, refl, sym, ◌∙◌}
use mathlib.Core.Bool.{Bool, true, false, ◌&&◌, ◌||◌, false≢true}
use mathlib.Core.List.{List, [], ◌∷◌}
use Prim.Native.Nat.{ℕ, zero, suc, ◌<◌, suc-le-suc}
use native.Mathlib.Nat.{le_of_suc-le-suc, not-suc-le-zero, zero-lt-suc}
use lib.ListN.{length, get_or}
use Rattle.std.specs.List.{list_all}
use Rattle.octets.specs.Every.{all_of}

pub and_first : (a b : Bool) → (a && b) ≡ true → a ≡ true
and_first true b e = refl
and_first false b e = e

pub and_second : (a b : Bool) → (a && b) ≡ true → b ≡ true
and_second true b e = e
and_second false b e = cc

pub or_first : (a b : Bool) → (a || b) ≡ false → a ≡ false
or_first true b e = e
or_first false b e = refl

pub or_second : (a b : Bool) → (a || b) ≡ false → b ≡ false
or_second true b e = cc
or_second false b e = e

pub never_both : (t : Bool) → t ≡ false → t ≡ true → ⊥
never_both t no-t yes-t = false≢true (sym no-t ∙ yes-t)

pub either {ℓ} : {P : Type ℓ} (t : Bool) → (t ≡ true → P) → (t ≡ false → P) → P
either true one other = one refl
either false one other = other refl

pub same_tests : (a b : Bool) → (a ≡ true → b ≡ true) → (b ≡ true → a ≡ true) → a ≡ b
same_tests true b there back = sym (there refl)
same_tests false true there back = back refl
same_tests false false there back = refl

module _ (test : ℕ → Bool) where
  pub all_first : (c : ℕ) (s : List ℕ) → all_of test (c ∷ s) ≡ true → test c ≡ true
  unfolding all_of
  all_first c s all = and_first (test c) (all_of test s) all

  pub all_rest : (c : ℕ) (s : List ℕ) → all_of test (c ∷ s) ≡ true → all_of test s ≡ true
  unfolding all_of
  all_rest c s all = and_second (test c) (all_of test s) all

  pub all_more : (c : ℕ) (s : List ℕ) → test c ≡ true → all_of test s ≡ true → all_of test (c ∷ s) ≡ true
  unfolding all_of
  all_more c s first rest = rw (first, rest)

  pub all_at_lem : (s : List ℕ) → all_of test s ≡ true → (i : ℕ) → i < length s → test (get_or s i 0) ≡ true
  all_at_lem [] all i h = absurd (not-suc-le-zero h)
  all_at_lem (c ∷ s) all zero h = all_first c s all
  all_at_lem (c ∷ s) all (suc i) h = all_at_lem s (all_rest c s all) i (le_of_suc-le-suc h)

  pub at_all : (s : List ℕ) → ((i : ℕ) → i < length s → test (get_or s i 0) ≡ true) → all_of test s ≡ true
  unfolding all_of
  at_all [] at = refl
  at_all (c ∷ s) at = all_more c s (at 0 (zero-lt-suc (length s))) (at_all s (λ i h. at (suc i) (suc-le-suc h)))

pub all_weaken : (test other : ℕ → Bool) → ((c : ℕ) → test c ≡ true → other c ≡ true) → (s : List ℕ) → all_of test s ≡ true → all_of other s ≡ true
all_weaken test other implies s all = at_all other s (λ i h. implies (get_or s i 0) (all_at_lem test s all i h))

-- the test of every byte is the library's
pub all_is_list_all : (test : ℕ → Bool) (s : List ℕ) → all_of test s ≡ list_all test s
unfolding all_of
all_is_list_all test [] = refl
all_is_list_all test (c ∷ s) = rw (all_is_list_all test s)
