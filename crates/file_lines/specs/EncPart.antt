-- A file cut at its CR LFs, and the ENC part of it.
use Rattle.std.specs.Prelude.{ℕ, Bool, false, cond, ◌||◌, List, [], ◌∷◌}
use Rattle.text.specs.Texts.{same_text, onto}
use Rattle.file_lines.specs.Lines.{is_line_end, ecs}

-- the texts between the CR LFs: the last is what no CR LF ends, and may be empty
unfoldable pub lines_of : List ℕ → List (List ℕ)
lines_of [] = [] ∷ []
lines_of (c ∷ []) = (c ∷ []) ∷ []
lines_of (c ∷ d ∷ s) = cond (is_line_end c d) ([] ∷ lines_of s) (onto c (lines_of (d ∷ s)))

-- the lines of the ENC part, which these texts begin with: those that CR LF ends, before :ECS
unfoldable pub enc_lines : List (List ℕ) → List (List ℕ)
enc_lines [] = []
enc_lines (l ∷ []) = []
enc_lines (l ∷ m ∷ rest) = cond (same_text l ecs) [] (l ∷ enc_lines (m ∷ rest))

-- the ENC part is closed: by :ECS, or by the file's end where nothing follows the last CR LF
unfoldable pub is_closed : List (List ℕ) → Bool
is_closed [] = false
is_closed (l ∷ []) = same_text l [] || same_text l ecs
is_closed (l ∷ m ∷ rest) = same_text l ecs || is_closed (m ∷ rest)
