-- A tenant's own cells among the records: its calls work on them as on one list, and on no other tenant's.
-- Assumes nothing.
use mathlib.Core.Path.{◌≡◌, refl, sym, ap, ◌∙◌}
use mathlib.Core.Bool.{cond}
use mathlib.Core.List.{List, [], ◌∷◌}
use mathlib.Core.Option.{Option, none, some}
use Prim.Native.Nat.{ℕ, ◌/◌, ◌%◌, ◌<◌}
use native.Mathlib.Omega.{arith}
use borrow.Author.Tests.{eq-eqb, ne_eqb}
use lib.Dec.{eqb}
use Rattle.tenants.specs.declared.Held.{Held}
use Rattle.tenants.specs.Cells.{entered, withdrawn, cell_of}
use Rattle.tenants.specs.Together.{in_book, cell_in, BookRecord, names, full_name, tenant_of, name_of, named, cells_of}
use Rattle.tenants.proofs.Ordered.{
  Above,
  Sorted,
  above_lower,
  equal_or_not,
  entered_same,
  entered_behind,
  entered_first,
  entered_cases,
  withdrawn_same,
  withdrawn_other,
  withdrawn_cases,
  found_here,
  found_later,
  found_name,
  same_cells,
}

module _ (t : ℕ) (r : BookRecord) (records : List BookRecord) where
  pub cells_mine : tenant_of r ≡ t → cells_of t (r ∷ records) ≡ cell_in r ∷ cells_of t records
  unfolding cells_of
  cells_mine mine = rw (eq-eqb (tenant_of r) t mine)

  pub cells_not : (tenant_of r ≡ t → ⊥) → cells_of t (r ∷ records) ≡ cells_of t records
  unfolding cells_of
  cells_not other = rw (ne_eqb (tenant_of r) t other)

  -- what is so of a tenant's cells, by whether the first record is one of them
  cells_cases : (P : List Held → Type 0) → (tenant_of r ≡ t → P (cell_in r ∷ cells_of t records))
      → ((tenant_of r ≡ t → ⊥) → P (cells_of t records)) → P (cells_of t (r ∷ records))
  cells_cases P mine other = equal_or_not (tenant_of r) t (λ m. rw (cells_mine m) (mine m)) (λ m. rw (cells_not m) (other m))

  -- the same record in front
  cells_behind : (others : List BookRecord) → cells_of t others ≡ cells_of t records → cells_of t (r ∷ others) ≡ cells_of t (r ∷ records)
  unfolding cells_of
  cells_behind others e = ap (λ (l : List Held). cond (eqb (tenant_of r) t) (cell_in r ∷ l) l) e

-- what is found, under another name
abbrev pub under : ℕ → Option Held → Option Held
under name none = none
under name (some c) = some (named name c)

module _ (t n : ℕ) (small : n < names) where
  above_own : (records : List BookRecord) → Above (full_name t n) records → Above n (cells_of t records)
  unfolding cells_of
  above_own [] above = tt
  above_own (r ∷ records) above =
      let h : full_name t n < r.name = above.0 in
      cells_cases t r records (Above n) (λ mine. (omega arith, above_own records above.1)) (λ _. above_own records above.1)

  pub cells_withdrawn : (records : List BookRecord) → cells_of t (withdrawn (full_name t n) records) ≡ withdrawn n (cells_of t records)
  unfolding cells_of withdrawn
  cells_withdrawn [] = refl
  cells_withdrawn (r ∷ records) =
      withdrawn_cases (full_name t n) r records (λ (l : List Held). cells_of t l ≡ withdrawn n (cells_of t (r ∷ records)))
      (λ it. sym (ap (withdrawn n) (cells_mine t r records (omega arith)) ∙ withdrawn_same n (cell_in r) (cells_of t records) (omega arith)))
      (λ no. equal_or_not (tenant_of r) t
      (λ mine. cells_mine t r (withdrawn (full_name t n) records) mine
      ∙ ap (λ (l : List Held). cell_in r ∷ l) (cells_withdrawn records)
      ∙ sym (ap (withdrawn n) (cells_mine t r records mine) ∙ withdrawn_other n (cell_in r) (cells_of t records) (λ e. no (omega arith))))
      (λ other. cells_not t r (withdrawn (full_name t n) records) other
      ∙ cells_withdrawn records
      ∙ sym (ap (withdrawn n) (cells_not t r records other))))

  pub cells_withdrawn_other : (u : ℕ) → (u ≡ t → ⊥) → (records : List BookRecord) → cells_of u (withdrawn (full_name t n) records) ≡ cells_of u records
  unfolding withdrawn
  cells_withdrawn_other u apart [] = refl
  cells_withdrawn_other u apart (r ∷ records) =
      withdrawn_cases (full_name t n) r records (λ (l : List Held). cells_of u l ≡ cells_of u (r ∷ records))
      (λ it. sym (cells_not u r records (λ e. apart (omega arith))))
      (λ _. cells_behind u r records (withdrawn (full_name t n) records) (cells_withdrawn_other u apart records))

  -- a record is found where the tenant's own list has the name, and it is that cell
  record_of_lem : (records : List BookRecord) → cell_of (full_name t n) records ≡ under (full_name t n) (cell_of n (cells_of t records))
  unfolding cells_of cell_of
  record_of_lem [] = refl
  record_of_lem (r ∷ records) =
      equal_or_not (full_name t n) r.name
      (λ it. found_here (full_name t n) r records it
      ∙ ap (λ (k : ℕ). some (named k r)) (sym it)
      ∙ ap (under (full_name t n)) (sym (found_here n (cell_in r) (cells_of t records) (omega arith)))
      ∙ sym (ap (λ (l : List Held). under (full_name t n) (cell_of n l)) (cells_mine t r records (omega arith))))
      (λ no. found_later (full_name t n) r records no
      ∙ record_of_lem records
      ∙ ap (under (full_name t n))
      (equal_or_not (tenant_of r) t
      (λ mine. sym (ap (cell_of n) (cells_mine t r records mine) ∙ found_later n (cell_in r) (cells_of t records) (λ e. no (omega arith))))
      (λ other. sym (ap (cell_of n) (cells_not t r records other)))))

module _ (t : ℕ) (cell : Held) (small : cell.name < names) where
  abbrev new : BookRecord
  new = in_book t cell

  cells_new : (records : List BookRecord) → cells_of t (new ∷ records) ≡ cell ∷ cells_of t records
  cells_new records = cells_mine t new records (omega arith) ∙ ap (λ (k : ℕ). named k cell ∷ cells_of t records) (omega arith)

  pub cells_entered : (records : List BookRecord) → Sorted records → cells_of t (entered new records) ≡ entered cell (cells_of t records)
  unfolding cells_of entered
  cells_entered [] sorted = cells_new []
  cells_entered (r ∷ records) sorted =
      entered_cases new r records (λ (l : List Held). cells_of t l ≡ entered cell (cells_of t (r ∷ records)))
      (λ m. cells_new (r ∷ records)
      ∙ sym (entered_first cell (cells_of t (r ∷ records))
      (above_own t cell.name small (r ∷ records) (m, above_lower (full_name t cell.name) r.name records (omega arith) sorted.0))))
      (λ m. cells_new records
      ∙ sym (ap (entered cell) (cells_mine t r records (omega arith)) ∙ entered_same cell (cell_in r) (cells_of t records) (omega arith)))
      (λ m. equal_or_not (tenant_of r) t
      (λ mine. cells_mine t r (entered new records) mine
      ∙ ap (λ (l : List Held). cell_in r ∷ l) (cells_entered records sorted.1)
      ∙ sym (ap (entered cell) (cells_mine t r records mine) ∙ entered_behind cell (cell_in r) (cells_of t records) (omega arith)))
      (λ other. cells_not t r (entered new records) other
      ∙ cells_entered records sorted.1
      ∙ sym (ap (entered cell) (cells_not t r records other))))

  pub cells_entered_other : (u : ℕ) → (u ≡ t → ⊥) → (records : List BookRecord) → cells_of u (entered new records) ≡ cells_of u records
  unfolding entered
  cells_entered_other u apart [] = cells_not u new [] (λ e. apart (omega arith))
  cells_entered_other u apart (r ∷ records) =
      entered_cases new r records (λ (l : List Held). cells_of u l ≡ cells_of u (r ∷ records))
      (λ _. cells_not u new (r ∷ records) (λ e. apart (omega arith)))
      (λ m. cells_not u new records (λ e. apart (omega arith)) ∙ sym (cells_not u r records (λ e. apart (omega arith))))
      (λ _. cells_behind u r records (entered new records) (cells_entered_other u apart records))

-- the two answers of a search among the records
module _ (t n : ℕ) (small : n < names) (records : List BookRecord) where
  twice : (found : Option Held) → found ≡ cell_of n (cells_of t records) → found ≡ under n (under (full_name t n) found)
  twice none e = refl
  twice (some c) e = ap (λ (k : ℕ). some (named k c)) (found_name n (cells_of t records) c (sym e))

  cell_of_lem : cell_of n (cells_of t records) ≡ under n (cell_of (full_name t n) records)
  cell_of_lem = twice (cell_of n (cells_of t records)) refl ∙ sym (ap (under n) (record_of_lem t n small records))

  pub cell_found : (r : BookRecord) → cell_of (full_name t n) records ≡ some r → cell_of n (cells_of t records) ≡ some (named n r)
  cell_found r found = cell_of_lem ∙ ap (under n) found

  pub cell_absent : cell_of (full_name t n) records ≡ none → cell_of n (cells_of t records) ≡ none
  cell_absent absent = cell_of_lem ∙ ap (under n) absent

-- a tenant's own cells are in order
pub own_sorted : (t : ℕ) (records : List BookRecord) → Sorted records → Sorted (cells_of t records)
unfolding cells_of
own_sorted t [] sorted = tt
own_sorted t (r ∷ records) sorted =
    cells_cases t r records Sorted
    (λ mine.
    let full : r.name ≡ full_name t (name_of r) = omega arith in
    (above_own t (name_of r) (omega arith) records (rw full at sorted.0), own_sorted t records sorted.1))
    (λ _. own_sorted t records sorted.1)

-- records in order that give each tenant the same cells are the same
pub same_records : (records others : List BookRecord) → Sorted records → Sorted others → ((t : ℕ) → cells_of t records ≡ cells_of t others) → records ≡ others
same_records records others sorted sorted' equal = same_cells records others sorted sorted' at
  where
    at : (k : ℕ) → cell_of k records ≡ cell_of k others
    at k =
        let full : k ≡ full_name (k / names) (k % names) = omega arith in
        rw full
        (record_of_lem (k / names) (k % names) (omega arith) records
        ∙ ap (λ (l : List Held). under (full_name (k / names) (k % names)) (cell_of (k % names) l)) (equal (k / names))
        ∙ sym (record_of_lem (k / names) (k % names) (omega arith) others))
