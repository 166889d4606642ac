-- The marks by which a name is known to be new. Any places would do: all that is proved of them is that they lie among the marks. For contracts inside the crate alone.
use Rattle.std.specs.Prelude.{ℕ, ◌+◌, ◌*◌, ◌/◌, ◌%◌, ◌^◌, Bool, List, [], ◌∷◌, fold, ◌==◌, slice_index, slice_set}
use Rattle.std.specs.List.{list_all}

-- what a name's four places are worked out with
abbrev pub factors : List ℕ
factors = 0x9e3779b97f4a7c15 ∷ 0xc2b2ae3d27d4eb4f ∷ 0x165667b1d6e8feb9 ∷ 0x85ebca776659fd93 ∷ []

-- a place of a name among the marks: each half of the name times one of the factor, and of their sum some bits
unfoldable pub mark_place : ℕ → ℕ → ℕ
mark_place factor name = (name / 2 ^ 32 * (factor / 2 ^ 32) + name % 2 ^ 32 * (factor % 2 ^ 32)) % 2 ^ 64 / 262144 % 262144

-- the mark at one of a name's places is set
abbrev pub is_set : List ℕ → ℕ → ℕ → Bool
is_set marks factor name = slice_index marks (mark_place factor name) == 1

-- all marks of a name are set
unfoldable pub is_marked : List ℕ → ℕ → Bool
is_marked marks name = list_all (λ factor. is_set marks factor name) factors

-- the marks, with one of a name set
abbrev pub with_set : ℕ → ℕ → List ℕ → List ℕ
with_set factor name marks = slice_set marks (mark_place factor name) 1

-- the marks, with all of a name set
unfoldable pub marked : ℕ → List ℕ → List ℕ
marked name marks = fold (λ set factor. with_set factor name set) marks factors
