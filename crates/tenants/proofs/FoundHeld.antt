-- What is found under a name in a good book is a cell with all its values in their ranges.
-- Assumes nothing.
use mathlib.Core.Path.{◌≡◌, sym, ap, ◌∙◌}
use mathlib.Core.Bool.{true}
use mathlib.Core.List.{List, [], ◌∷◌}
use mathlib.Core.Option.{some}
use Prim.Native.Nat.{ℕ}
use Rattle.tenants.specs.declared.Held.{Held}
use Rattle.tenants.specs.Cells.{cell_of}
use Rattle.tenants.specs.Rules.{is_held}
use Rattle.tenants.specs.Together.{cell_in, BookRecord, tenant_of, cells_of}
use Rattle.tenants.proofs.Ordered.{equal_or_not, found_here, found_later}
use Rattle.tenants.proofs.OwnCells.{cells_mine, cells_not}
use Rattle.tenants.proofs.Ranges.{record_held}
use Rattle.tenants.proofs.Goodness.{EachRecord}

pub found_held : (t name : ℕ) (cell : Held) (records : List BookRecord) → EachRecord records
    → cell_of name (cells_of t records) ≡ some cell → is_held cell ≡ true
unfolding cells_of cell_of
found_held t name cell [] each found = cc
found_held t name cell (r ∷ records) each found =
    equal_or_not (tenant_of r) t
    (λ mine.
    let there : cell_of name (cell_in r ∷ cells_of t records) ≡ some cell = ap (cell_of name) (sym (cells_mine t r records mine)) ∙ found in
    equal_or_not name (cell_in r).name
    (λ it.
    let same : some (cell_in r) ≡ some cell = sym (found_here name (cell_in r) (cells_of t records) it) ∙ there in
    let equal : cell_in r ≡ cell = cc in
    ap is_held (sym equal) ∙ record_held r each.0)
    (λ not. found_held t name cell records each.1 (sym (found_later name (cell_in r) (cells_of t records) not) ∙ there)))
    (λ other. found_held t name cell records each.1 (ap (cell_of name) (sym (cells_not t r records other)) ∙ found))
