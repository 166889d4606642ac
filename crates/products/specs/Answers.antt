-- How a ship's cell stands against the product list.
use Rattle.std.specs.Prelude.{Option, None, Some, Result, Ok, Err, Bool, cond, not, ◌&&◌, ◌||◌, List, [], ◌∷◌, map, ℕ, leb, ltb, eqb}
use Rattle.forms.specs.Order.{demand}
use Rattle.forms.specs.Refusals.{by, number_of, refused}
use Rattle.forms.specs.declared.refusals.Refusal.{Refusal}
use Rattle.forms.specs.Identifiers.{is_cell_name}
use Rattle.product_row.specs.declared.Row.{Row}
use Rattle.product_names.specs.Repeats.{repeats}
use Rattle.products.specs.Listing.{is_listing, rows_of}
use Rattle.products.specs.declared.standings.Standing.{Standing}
use Rattle.products.specs.declared.standings.Standing.TheVariants.{UpToDate, Behind, Cancelled, NotListed}

-- a name, an edition of 1 to 999 and an update of 0 to 999
unfoldable pub is_ships : ℕ → ℕ → ℕ → Bool
is_ships name edition update = is_cell_name name && leb 1 edition && leb edition 999 && leb update 999

-- a ship's edition and update come before those of a row: a lower edition, or the same and a lower update
unfoldable pub is_behind : ℕ → ℕ → Row → Bool
is_behind edition update row = ltb edition row.edition || eqb edition row.edition && ltb update row.update

-- a cell's own row: the one that has its name, where there is one
unfoldable pub own_row : ℕ → List Row → Option Row
own_row name [] = None
own_row name (row ∷ rows) = cond (eqb row.name name) (Some row) (own_row name rows)

-- the standing by a cell's own row: edition 0 is cancelled, whatever the ship has; a ship ahead is up to date
unfoldable pub standing_by : Option Row → ℕ → ℕ → Standing
standing_by None edition update = NotListed
standing_by (Some row) edition update = cond (eqb row.edition 0) Cancelled (cond (is_behind edition update row) Behind UpToDate)

-- the names of rows
abbrev pub names_of : List Row → List ℕ
names_of rows = map (λ (row : Row). row.name) rows

-- the answer: 103 for what the ship gave, 12 for the header or any row, 110 for a name that stands twice
unfoldable pub standing_of : List ℕ → ℕ → ℕ → ℕ → Result Standing Refusal
standing_of list name edition update =
    demand (is_ships name edition update) (refused (by 103))
    (demand (is_listing list) (refused (by 12))
    (demand (not (repeats (names_of (rows_of list)))) (refused (by 110))
    (Ok (standing_by (own_row name (rows_of list)) edition update))))

-- the number of an answer: 27 for a cell that is behind
abbrev pub standing_number : Result Standing Refusal → ℕ
standing_number (Ok UpToDate) = 0
standing_number (Ok Behind) = 27
standing_number (Ok Cancelled) = 0
standing_number (Ok NotListed) = 0
standing_number (Err r) = number_of r

-- the code of its standing: 0 up to date, 1 behind, 2 cancelled, 3 not listed; 0 at a refusal
abbrev pub standing_code : Result Standing Refusal → ℕ
standing_code (Ok UpToDate) = 0
standing_code (Ok Behind) = 1
standing_code (Ok Cancelled) = 2
standing_code (Ok NotListed) = 3
standing_code (Err r) = 0
