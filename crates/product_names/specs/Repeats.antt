-- Whether a name stands twice among the rows of a list.
use Rattle.std.specs.Prelude.{ℕ, Bool, false, ◌||◌, List, [], ◌∷◌, map, ◌==◌}
use Rattle.octets.specs.Places.{number_at}
use Rattle.file_lines.specs.Walk.{enc_from}

-- a name stands among some names
unfoldable pub stands_in : ℕ → List ℕ → Bool
stands_in x [] = false
stands_in x (y ∷ ys) = x == y || stands_in x ys

-- one of some names stands again after its place
unfoldable pub repeats : List ℕ → Bool
repeats [] = false
repeats (x ∷ xs) = stands_in x xs || repeats xs

-- the name that a line begins with: its first eight bytes as a number
abbrev pub name_of : List ℕ → ℕ
name_of line = number_at 8 line 0

-- the names of the lines of the ENC part from a place on
abbrev pub names_from : List ℕ → ℕ → List ℕ
names_from file place = map name_of (enc_from file place)
