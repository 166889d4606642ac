-- What the search tells of an undamaged book's records and of a tenant's own cells.
-- Assumes nothing.
use mathlib.Core.Path.{◌≡◌, refl, sym, ap, ap₂, ◌∙◌}
use mathlib.Core.Bool.{true, false, false≢true}
use mathlib.Core.List.{List}
use mathlib.Core.Option.{none, some}
use Prim.Native.Nat.{ℕ, ◌≤◌, ◌<◌}
use native.Mathlib.Omega.{arith}
use lib.ListN.{length, get_or, length-append}
use lib.Seq.{get_or_at}
use Rattle.tenants.specs.Cells.{cell_of}
use Rattle.tenants.specs.Rules.{is_some}
use Rattle.tenants.specs.Together.{cell_in, BookRecord, names, full_name, name_of, named, cells_of, own_of}
use Rattle.tenants.proofs.OwnCells.{cell_found, cell_absent}
use Rattle.layout.specs.Layout.{record_at, record_count, book_of, is_book, list_in}
use Rattle.layout.proofs.Indexed.{book_count, book_record}
use Rattle.layout.proofs.Promises.{good}
use Rattle.judging.proofs.Judgements.{judged_says}
use Rattle.records.specs.declared.finding.Found.{Found}
use Rattle.records.specs.declared.finding.Found.TheVariants.{At, Absent}
use Rattle.records.specs.Finding.{searched, searched_under, SearchesOwn, FindsHeld, FindsNone}
use Rattle.records.proofs.Found.{Here, Gone, found_at, found-absent}
use Rattle.records.proofs.Searching.{search_says}

module _ (s : List ℕ) (undamaged : is_book s ≡ true) (t name i : ℕ) (small : name < names) where
  module _ (found : searched_under s t name ≡ At i) where
    pub here : Here (full_name t name) (book_of s).records i
    here = found_at (full_name t name) (book_of s).records i (good s undamaged).sorted
        (sym (search_says s undamaged t name small) ∙ found)

    -- the place lies among the records
    pub found_within : i < record_count s
    found_within = omega (arith, here.place, book_count s, simp length-append at (ap length here.whole))

    it-is : here.it ≡ record_at s i
    it-is =
        sym (get_or_at here.front here.it here.back here.it i here.place)
        ∙ ap (λ (l : List BookRecord). get_or l i here.it) (sym here.whole)
        ∙ book_record s i here.it found_within

    cell-there : cell_of name (cells_of t (book_of s).records) ≡ some (cell_in (record_at s i))
    cell-there =
        let name_is : name ≡ name_of here.it = omega (arith, here.name) in
        cell_found t name small (book_of s).records here.it here.held
        ∙ ap (λ (n : ℕ). some (named n here.it)) name_is
        ∙ ap (λ (r : BookRecord). some (cell_in r)) it-is

  module _ (found : searched_under s t name ≡ Absent i) where
    pub gone : Gone (full_name t name) (book_of s).records i
    gone = found-absent (full_name t name) (book_of s).records i (good s undamaged).sorted
        (sym (search_says s undamaged t name small) ∙ found)

    -- the place lies among the records or after the last
    pub absent-within : i ≤ record_count s
    absent-within = omega (arith, gone.place, book_count s, simp length-append at (ap length gone.whole))

    no_cell : cell_of name (cells_of t (book_of s).records) ≡ none
    no_cell = cell_absent t name small (book_of s).records gone.absent

pub searches_own : SearchesOwn
searches_own s t name r so =
    let places = (judged_says s (list_in s t) r so).1 in
    ap₂ (λ (i j : ℕ). searched s i j name) places.0 places.1

pub finds_held : FindsHeld
unfolding own_of
finds_held s t name i undamaged small found = cell-there s undamaged (list_in s t) name i small found

pub finds_none : FindsNone
unfolding own_of
finds_none s t name i undamaged small found = no_cell s undamaged (list_in s t) name i small found

-- whether a name is held under tenant t's number or not, it has its place among the records
module _ (s : List ℕ) (undamaged : is_book s ≡ true) (t name : ℕ) (small : name < names) where
  pub held_somewhere : is_some (cell_of name (cells_of t (book_of s).records)) ≡ true → (i : ℕ) × Here (full_name t name) (book_of s).records i
  held_somewhere held = go (searched_under s t name) refl
    where
      go : (f : Found) → searched_under s t name ≡ f → (i : ℕ) × Here (full_name t name) (book_of s).records i
      go (At i) found = (i, here s undamaged t name i small found)
      go (Absent i) found = absurd (false≢true (sym (ap is_some (no_cell s undamaged t name i small found)) ∙ held))

  pub absent_somewhere : is_some (cell_of name (cells_of t (book_of s).records)) ≡ false → (i : ℕ) × Gone (full_name t name) (book_of s).records i
  absent_somewhere absent = go (searched_under s t name) refl
    where
      go : (f : Found) → searched_under s t name ≡ f → (i : ℕ) × Gone (full_name t name) (book_of s).records i
      go (At i) found = absurd (false≢true (sym absent ∙ ap is_some (cell-there s undamaged t name i small found)))
      go (Absent i) found = (i, gone s undamaged t name i small found)
