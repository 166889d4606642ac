-- What a block of rows says of the rows from its place on. For contracts inside the crate alone.
use Rattle.std.specs.Prelude.{◌≡◌, Option, None, Some, ℕ, ◌<◌, ◌≤◌, Bool, true, false, ◌||◌, List, [], ◌∷◌, length}
use Rattle.product_names.specs.Repeats.{stands_in, repeats, names_from}
use Rattle.product_names.specs.Marking.{is_marked}

-- some name of the rows stands in the block
unfoldable pub any_in : List ℕ → List ℕ → Bool
any_in block [] = false
any_in block (x ∷ xs) = stands_in x block || any_in block xs

-- every name of the block is marked
abbrev pub AllMarked : List ℕ → List ℕ → Type 0
AllMarked marks block = (x : ℕ) → stands_in x block ≡ true → is_marked marks x ≡ true

-- a name stands twice, or that is left to the rows from a place further on: to none from the list's end
abbrev pub Says : List ℕ → ℕ → Option ℕ → Type 0
Says list place None = repeats (names_from list place) ≡ true
Says list place (Some next) = (place < next) × ((next ≤ length list) × (repeats (names_from list place) ≡ repeats (names_from list next)))
