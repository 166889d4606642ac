-- A test at each of n in a row: what it says of each, and how a loop makes it.
-- Assumes nothing.
use mathlib.Core.Path.{◌≡◌, refl, sym, ap, ◌∙◌}
use mathlib.Core.Bool.{Bool, true, false}
use mathlib.Core.List.{List}
use Prim.Native.Nat.{ℕ, zero, suc, ◌+◌, ◌≤◌, ◌<◌}
use native.Mathlib.Omega.{arith}
use borrow.Author.Tests.{eqb-true, eqb-false}
use lib.Dec.{eqb}
use native.Mathlib.Numerals.{add-one}
use Rattle.std.specs.List.{list_all, range_with_len}
use Rattle.octets.proofs.Every.{and_first, and_second, either}
use Rattle.tenants.specs.declared.Setting.{Setting}
use Rattle.tenants.specs.Together.{is_principal, are_principals}
use Rattle.layout.specs.Layout.{each_from, all_from}

module _ (test : ℕ → Bool) where
  pub all_each : (i n : ℕ) → all_from test i n ≡ true → (k : ℕ) → i ≤ k → k < i + n → test k ≡ true
  unfolding all_from
  all_each i zero all k low high = absurd (omega arith)
  all_each i (suc n) all k low high =
      either (eqb i k)
      (λ same. ap test (sym (eqb-true i k same)) ∙ and_first (test i) (all_from test (suc i) n) all)
      (λ other. let apart : i ≡ k → ⊥ = eqb-false i k other in
      all_each (suc i) n (and_second (test i) (all_from test (suc i) n) all) k (omega arith) (omega arith))

  pub each_all : (i n : ℕ) → ((k : ℕ) → i ≤ k → k < i + n → test k ≡ true) → all_from test i n ≡ true
  unfolding all_from
  each_all i zero each = refl
  each_all i (suc n) each =
      rw (each i (omega arith) (omega arith), each_all (suc i) n (λ k low high. each k (omega arith) (omega arith)))

  -- as a list of them is tested
  pub all_listed : (i n : ℕ) → list_all test (range_with_len i n) ≡ all_from test i n
  unfolding all_from
  all_listed i zero = refl
  all_listed i (suc n) = rw (add-one, all_listed (suc i) n)

  -- those before i pass
  abbrev pub Passed : ℕ → Type 0
  Passed i = (k : ℕ) → k < i → test k ≡ true

  pub passed_none : Passed 0
  passed_none k h = absurd (omega arith)

  pub passed-next : (i : ℕ) → Passed i → test i ≡ true → Passed (i + 1)
  passed-next i passed right k h =
      either (eqb k i)
      (λ last. ap test (eqb-true k i last) ∙ right)
      (λ other. let apart : k ≡ i → ⊥ = eqb-false k i other in passed k (omega arith))

  pub passed_all : (n i : ℕ) → Passed i → n ≤ i → all_from test 0 n ≡ true
  passed_all n i passed done = each_all 0 n (λ k low high. passed k (omega arith))

  pub one_fails : (n i : ℕ) → i < n → test i ≡ false → all_from test 0 n ≡ false
  one_fails n i h wrong =
      either (all_from test 0 n) (λ all. all ∙ sym (all_each 0 n all i (omega arith) (omega arith)) ∙ wrong) (λ fails. fails)

pub same_all : (test other : ℕ → Bool) (i n : ℕ) → ((k : ℕ) → i ≤ k → k < i + n → test k ≡ other k) → all_from test i n ≡ all_from other i n
unfolding all_from
same_all test other i zero same = refl
same_all test other i (suc n) same =
    rw (same i (omega arith) (omega arith), same_all test other (suc i) n (λ k low high. same k (omega arith) (omega arith)))

-- all of a row may name as they do where each may
pub principals_each : (all : List Setting) (at : ℕ → Setting) (t n : ℕ)
    → are_principals all t (each_from at t n) ≡ all_from (λ (u : ℕ). is_principal all u (at u)) t n
unfolding are_principals each_from all_from
principals_each all at t zero = refl
principals_each all at t (suc n) = rw (principals_each all at (suc t) n)
