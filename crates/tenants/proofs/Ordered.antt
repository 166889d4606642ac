-- A list of cells in name order: what keeps it in order, and that it is what it holds under each name.
-- Assumes nothing.
use mathlib.Core.Path.{◌≡◌, refl, sym, ap, ap₂, ◌∙◌}
use mathlib.Core.Bool.{Bool, true, ◌&&◌}
use mathlib.Core.List.{List, [], ◌∷◌}
use mathlib.Core.Option.{Option, none, some}
use Prim.Native.Nat.{ℕ, ◌≤◌, ◌<◌}
use native.Mathlib.Omega.{arith}
use borrow.Author.Tests.{ltb-true, ltb-false, eqb-true, eqb-false, lt-ltb, le-ltb, eq-eqb, ne_eqb}
use lib.Dec.{ltb, eqb}
use Rattle.octets.proofs.Every.{and_first, and_second, either}
use Rattle.tenants.specs.declared.Held.{Held}
use Rattle.tenants.specs.Cells.{entered, withdrawn, cell_of, starts_above}
use Rattle.tenants.specs.Together.{is_record, are_records}

-- each name is above this one
abbrev pub Above : ℕ → List Held → Type 0
Above name [] = Unit {0}
Above name (d ∷ cells) = (name < d.name) × Above name cells

-- each name is below this one
abbrev pub Below : ℕ → List Held → Type 0
Below name [] = Unit {0}
Below name (d ∷ cells) = (d.name < name) × Below name cells

-- the names rise strictly
abbrev pub Sorted : List Held → Type 0
Sorted [] = Unit {0}
Sorted (d ∷ cells) = Above d.name cells × Sorted cells

-- where one name stands to another
pub data Stands (a b : ℕ) : Type 0 where
  before : a < b → Stands a b
  same : a ≡ b → Stands a b
  behind : b < a → Stands a b

pub stands : (a b : ℕ) → Stands a b
stands a b =
    either (ltb a b)
    (λ lower. before (ltb-true a b lower))
    (λ no. let high : b ≤ a = ltb-false a b no in
    either (eqb a b)
    (λ equal. same (eqb-true a b equal))
    (λ other. let apart : (a ≡ b → ⊥) = eqb-false a b other in behind (omega arith)))

pub equal_or_not {ℓ} : {P : Type ℓ} (a b : ℕ) → (a ≡ b → P) → ((a ≡ b → ⊥) → P) → P
equal_or_not a b one other = either (eqb a b) (λ e. one (eqb-true a b e)) (λ e. other (eqb-false a b e))

pub above_lower : (j k : ℕ) (cells : List Held) → j ≤ k → Above k cells → Above j cells
above_lower j k [] h above = tt
above_lower j k (d ∷ cells) h above = (omega arith, above_lower j k cells h above.1)

module _ (c d : Held) (cells : List Held) where
  entered_before : c.name < d.name → entered c (d ∷ cells) ≡ c ∷ (d ∷ cells)
  unfolding entered
  entered_before lower = rw (lt-ltb c.name d.name lower)

  pub entered_same : c.name ≡ d.name → entered c (d ∷ cells) ≡ c ∷ cells
  unfolding entered
  entered_same equal = rw (le-ltb c.name d.name (omega arith), eq-eqb c.name d.name equal)

  pub entered_behind : d.name < c.name → entered c (d ∷ cells) ≡ d ∷ entered c cells
  unfolding entered
  entered_behind higher = rw (le-ltb c.name d.name (omega arith), ne_eqb c.name d.name (λ e. omega arith))

  -- what is so of the list with c entered, by where c stands to the first
  pub entered_cases : (P : List Held → Type 0) → (c.name < d.name → P (c ∷ (d ∷ cells))) → (c.name ≡ d.name → P (c ∷ cells))
      → (d.name < c.name → P (d ∷ entered c cells)) → P (entered c (d ∷ cells))
  entered_cases P first replaced later = go (stands c.name d.name)
    where
      go : Stands c.name d.name → P (entered c (d ∷ cells))
      go (before m) = rw (entered_before m) (first m)
      go (same m) = rw (entered_same m) (replaced m)
      go (behind m) = rw (entered_behind m) (later m)

pub entered_first : (c : Held) (cells : List Held) → Above c.name cells → entered c cells ≡ c ∷ cells
unfolding entered
entered_first c [] above = refl
entered_first c (d ∷ cells) above = entered_before c d cells above.0

module _ (name : ℕ) (d : Held) (cells : List Held) where
  pub withdrawn_same : name ≡ d.name → withdrawn name (d ∷ cells) ≡ cells
  unfolding withdrawn
  withdrawn_same equal = rw (eq-eqb name d.name equal)

  pub withdrawn_other : (name ≡ d.name → ⊥) → withdrawn name (d ∷ cells) ≡ d ∷ withdrawn name cells
  unfolding withdrawn
  withdrawn_other other = rw (ne_eqb name d.name other)

  -- what is so of the list without a name, by whether the first has it
  pub withdrawn_cases : (P : List Held → Type 0) → (name ≡ d.name → P cells) → ((name ≡ d.name → ⊥) → P (d ∷ withdrawn name cells))
      → P (withdrawn name (d ∷ cells))
  withdrawn_cases P first later =
      equal_or_not name d.name (λ m. rw (withdrawn_same m) (first m)) (λ m. rw (withdrawn_other m) (later m))

  pub found_here : name ≡ d.name → cell_of name (d ∷ cells) ≡ some d
  unfolding cell_of
  found_here equal = rw (eq-eqb name d.name equal)

  pub found_later : (name ≡ d.name → ⊥) → cell_of name (d ∷ cells) ≡ cell_of name cells
  unfolding cell_of
  found_later other = rw (ne_eqb name d.name other)

module _ (c : Held) where
  above_entered : (j : ℕ) (cells : List Held) → j < c.name → Above j cells → Above j (entered c cells)
  unfolding entered
  above_entered j [] h above = (h, tt)
  above_entered j (d ∷ cells) h above =
      entered_cases c d cells (Above j) (λ _. (h, above)) (λ _. (h, above.1)) (λ _. (above.0, above_entered j cells h above.1))

  pub sorted_entered : (cells : List Held) → Sorted cells → Sorted (entered c cells)
  unfolding entered
  sorted_entered [] sorted = (tt, tt)
  sorted_entered (d ∷ cells) sorted =
      entered_cases c d cells Sorted
      (λ m. ((m, above_lower c.name d.name cells (omega arith) sorted.0), sorted))
      (λ m. (above_lower c.name d.name cells (omega arith) sorted.0, sorted.1))
      (λ m. (above_entered d.name cells m sorted.0, sorted_entered cells sorted.1))

module _ (name : ℕ) where
  above_withdrawn : (j : ℕ) (cells : List Held) → Above j cells → Above j (withdrawn name cells)
  unfolding withdrawn
  above_withdrawn j [] above = tt
  above_withdrawn j (d ∷ cells) above =
      withdrawn_cases name d cells (Above j) (λ _. above.1) (λ _. (above.0, above_withdrawn j cells above.1))

  pub sorted_withdrawn : (cells : List Held) → Sorted cells → Sorted (withdrawn name cells)
  unfolding withdrawn
  sorted_withdrawn [] sorted = tt
  sorted_withdrawn (d ∷ cells) sorted =
      withdrawn_cases name d cells Sorted
      (λ _. sorted.1)
      (λ _. (above_withdrawn d.name cells sorted.0, sorted_withdrawn cells sorted.1))

  pub absent_above : (cells : List Held) → Above name cells → cell_of name cells ≡ none
  unfolding cell_of
  absent_above [] above = refl
  absent_above (d ∷ cells) above =
      let h : name < d.name = above.0 in found_later name d cells (λ e. omega arith) ∙ absent_above cells above.1

none_some : {c : Held} → ◌≡◌ {A = Option Held} none (some c) → ⊥
none_some e = let z : ◌≡◌ {A = ℕ} 0 1 = cc in omega arith

some_some : {c d : Held} → ◌≡◌ {A = Option Held} (some c) (some d) → c ≡ d
some_some e = cc

-- what is found under a name has it
pub found_name : (name : ℕ) (cells : List Held) (c : Held) → cell_of name cells ≡ some c → c.name ≡ name
unfolding cell_of
found_name name [] c found = absurd (none_some found)
found_name name (d ∷ cells) c found =
    equal_or_not name d.name
    (λ m. ap (λ (x : Held). x.name) (sym (some_some (sym (found_here name d cells m) ∙ found))) ∙ sym m)
    (λ m. found_name name cells c (sym (found_later name d cells m) ∙ found))

-- a list in order is what it holds under each name
pub same_cells : (cells others : List Held) → Sorted cells → Sorted others → ((name : ℕ) → cell_of name cells ≡ cell_of name others) → cells ≡ others
unfolding cell_of
same_cells [] [] sorted sorted' held = refl
same_cells [] (d ∷ others) sorted sorted' held = absurd (none_some (held d.name ∙ found_here d.name d others refl))
same_cells (c ∷ cells) [] sorted sorted' held = absurd (none_some (sym (held c.name) ∙ found_here c.name c cells refl))
same_cells (c ∷ cells) (d ∷ others) sorted sorted' held = go (stands c.name d.name) (same_cells cells others sorted.1 sorted'.1)
  where
    go : Stands c.name d.name → (((name : ℕ) → cell_of name cells ≡ cell_of name others) → cells ≡ others) → c ∷ cells ≡ d ∷ others
    go (before m) ih =
        let no : cell_of c.name (d ∷ others) ≡ none
        = absent_above c.name (d ∷ others) (m, above_lower c.name d.name others (omega arith) sorted'.0) in
        absurd (none_some (sym no ∙ sym (held c.name) ∙ found_here c.name c cells refl))
    go (behind m) ih =
        let no : cell_of d.name (c ∷ cells) ≡ none
        = absent_above d.name (c ∷ cells) (m, above_lower d.name c.name cells (omega arith) sorted.0) in
        absurd (none_some (sym no ∙ held d.name ∙ found_here d.name d others refl))
    go (same m) ih = ap₂ (λ (x : Held) (l : List Held). x ∷ l) firsts (ih rests)
      where
        firsts : c ≡ d
        firsts = some_some (sym (found_here c.name c cells refl) ∙ held c.name ∙ found_here c.name d others m)

        rests : (name : ℕ) → cell_of name cells ≡ cell_of name others
        rests name =
            equal_or_not name c.name
            (λ e. absent_above name cells (rw e sorted.0) ∙ sym (absent_above name others (rw (e, m) sorted'.0)))
            (λ n. sym (found_later name c cells n) ∙ held name ∙ found_later name d others (λ e. n (e ∙ sym m)))

starts_above_lem : (name : ℕ) (cells : List Held) → starts_above name cells ≡ true → Sorted cells → Above name cells
unfolding starts_above
starts_above_lem name [] starts sorted = tt
starts_above_lem name (d ∷ cells) starts sorted =
    let h : name < d.name = ltb-true name d.name starts in (h, above_lower name d.name cells (omega arith) sorted.0)

-- the records of a good book are in order
pub records_sorted : (records : List Held) → are_records records ≡ true → Sorted records
unfolding are_records
records_sorted [] are = tt
records_sorted (r ∷ records) are =
    let starts : Bool = starts_above r.name records in
    let rest : Sorted records = records_sorted records (and_second (is_record r && starts) (are_records records) are) in
    let first : is_record r && starts ≡ true = and_first (is_record r && starts) (are_records records) are in
    (starts_above_lem r.name records (and_second (is_record r) starts first) rest, rest)
