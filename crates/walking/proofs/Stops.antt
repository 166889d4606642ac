-- Where the walk stops, step by step, and what is left of it.
-- Assumes nothing.
use mathlib.Core.Path.{◌≡◌, sym, ap, ◌∙◌}
use mathlib.Core.Bool.{true, false}
use mathlib.Core.List.{List}
use Prim.Native.Nat.{ℕ, suc, ◌+◌, ◌-◌, ◌≤◌, ◌<◌}
use native.Mathlib.Numerals.{add-one}
use native.Mathlib.Omega.{arith}
use borrow.Author.Tests.{le-leb, lt-ltb, le-ltb, eq-eqb, ne_eqb}
use lib.ListN.{length}
use Rattle.layout.specs.Layout.{used_length}
use Rattle.walking.specs.Walking.{producer_at, walked, any_among}

-- one step, by the producer of the record there
module _ (s : List ℕ) (producer i n : ℕ) where
  pub stops_later : producer < producer_at s i → walked s producer i (suc n) ≡ false
  unfolding walked
  stops_later later = rw (lt-ltb producer (producer_at s i) later)

  pub stops_there : producer_at s i ≡ producer → walked s producer i (suc n) ≡ true
  unfolding walked
  stops_there there = rw (le-ltb producer (producer_at s i) (omega arith), eq-eqb (producer_at s i) producer there)

  pub goes_on : producer_at s i < producer → walked s producer i (suc n) ≡ walked s producer (suc i) n
  unfolding walked
  goes_on before = rw (le-ltb producer (producer_at s i) (omega arith), ne_eqb (producer_at s i) producer (λ e. omega arith))

-- at record i the rest of the walk decides
abbrev pub Left : List ℕ → ℕ → ℕ → ℕ → ℕ → Type 0
Left s producer first past i = walked s producer i (past - i) ≡ walked s producer first (past - first)

module _ (s : List ℕ) (producer first past i : ℕ) (so_far : Left s producer first past i) where
  pub left_none : past ≤ i → false ≡ walked s producer first (past - first)
  unfolding walked
  left_none done =
      let none : past - i ≡ 0 = omega arith in
      sym (ap (walked s producer i) none) ∙ so_far

  module _ (more : i < past) where
    one_more : past - i ≡ suc (past - suc i)
    one_more = omega arith

    pub left_later : producer < producer_at s i → false ≡ walked s producer first (past - first)
    left_later later = sym (ap (walked s producer i) one_more ∙ stops_later s producer i (past - suc i) later) ∙ so_far

    pub left_there : producer_at s i ≡ producer → true ≡ walked s producer first (past - first)
    left_there there = sym (ap (walked s producer i) one_more ∙ stops_there s producer i (past - suc i) there) ∙ so_far

    pub left_next : producer_at s i < producer → Left s producer first past (i + 1)
    left_next before = rw add-one (sym (ap (walked s producer i) one_more ∙ goes_on s producer i (past - suc i) before) ∙ so_far)

module _ (s : List ℕ) (first past producer : ℕ) where
  pub walked-within : used_length past ≤ length s → walked s producer first (past - first) ≡ any_among s first past producer
  unfolding any_among
  walked-within within = sym (rw (le-leb (used_length past) (length s) within))
