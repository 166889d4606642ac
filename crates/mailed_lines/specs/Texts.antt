-- A mailed file cut at its LFs.
use Rattle.std.specs.Prelude.{cond, List, [], ◌∷◌, ◌++◌, ℕ, eqb}
use Rattle.text.specs.Texts.{onto}
use Rattle.file_lines.specs.Texts.{lf}

-- the texts between the LFs: the last is what no LF ends, and may be empty
unfoldable pub texts_of : List ℕ → List (List ℕ)
texts_of [] = [] ∷ []
texts_of (c ∷ s) = cond (eqb c lf) ([] ∷ texts_of s) (onto c (texts_of s))

-- such texts as they stood, with an LF after each but the last
unfoldable pub joined : List (List ℕ) → List ℕ
joined [] = []
joined (t ∷ []) = t
joined (t ∷ u ∷ rest) = t ++ (lf ∷ joined (u ∷ rest))
