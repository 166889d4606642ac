-- One list of cells, kept in name order: a tenant's own cells by their names, and the book's records by their full names.
use Rattle.std.specs.Prelude.{Bool, true, false, cond, ◌||◌, List, [], ◌∷◌, ℕ, ◌/◌, ◌^◌, ltb, eqb}
use Rattle.std.proofs.Math.Option.{Option, none, some}
use Rattle.tenants.specs.declared.Held.{Held}

-- the list with a cell entered at its place; a held name is replaced
unfoldable pub entered : Held → List Held → List Held
entered c [] = c ∷ []
entered c (d ∷ cells) =
    cond (ltb c.name d.name) (c ∷ (d ∷ cells)) (cond (eqb c.name d.name) (c ∷ cells) (d ∷ entered c cells))

-- the list without a name
unfoldable pub withdrawn : ℕ → List Held → List Held
withdrawn name [] = []
withdrawn name (d ∷ cells) = cond (eqb name d.name) cells (d ∷ withdrawn name cells)

-- the cell of a name, if it is held
unfoldable pub cell_of : ℕ → List Held → Option Held
cell_of name [] = none
cell_of name (d ∷ cells) = cond (eqb name d.name) (some d) (cell_of name cells)

-- the producer of a cell: the first two characters of its name, which has six more
abbrev pub producer_of : ℕ → ℕ
producer_of name = name / 256 ^ 6

-- among all the cells, one is of this producer
unfoldable pub holds_any : ℕ → List Held → Bool
holds_any producer [] = false
holds_any producer (d ∷ cells) = eqb (producer_of d.name) producer || holds_any producer cells

-- the first name, if there is one, is above this one
unfoldable pub starts_above : ℕ → List Held → Bool
starts_above name [] = true
starts_above name (d ∷ cells) = ltb name d.name
