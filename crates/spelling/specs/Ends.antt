-- What C reads of a text that it gets: the text, which a zero ends.
use Rattle.std.specs.Prelude.{◌≡◌, cond, List, [], ◌∷◌, ℕ, ◌<◌, eqb, length}
use Rattle.spelling.specs.Spelling.{name_to, hw_id_to, code_to, key_to, date_to, spelled}

-- the bytes before the first zero
unfoldable pub until_zero : List ℕ → List ℕ
until_zero [] = []
until_zero (c ∷ s) = cond (eqb c 0) [] (c ∷ until_zero s)

-- the text leaves room for a zero among the 64 bytes, and is what stands before the first
abbrev pub ReadByC : (ℕ → List ℕ) → Type 0
ReadByC to = (x : ℕ) → (length (to x) < 64) × (until_zero (spelled (to x)) ≡ to x)

-- so it is of every value's text
abbrev pub TextsEnd : Type 0
TextsEnd = ReadByC name_to × ReadByC hw_id_to × ReadByC code_to × ReadByC key_to × ReadByC date_to
