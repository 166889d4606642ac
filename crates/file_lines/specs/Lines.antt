-- The lines of a file: each ends at the first CR LF after its beginning.
use Rattle.std.specs.Prelude.{ℕ, suc, ◌+◌, Bool, cond, ◌&&◌, ◌||◌, List, [], ◌∷◌, length, drop, ◌==◌, nat_lt, slice_index}
use Rattle.text.specs.Ascii.{byte, ascii}
use Rattle.text.specs.Texts.{part, same_text}
use Rattle.file_lines.specs.declared.LineFound.{LineFound}
use Rattle.file_lines.specs.declared.LineFound.TheVariants.{Line, Unended, End}

-- two bytes are CR LF
abbrev pub is_line_end : ℕ → ℕ → Bool
is_line_end first second = first == (byte "\r") && second == (byte "\n")

-- how many bytes stand before the first CR LF; all where there is none
unfoldable pub line_length : List ℕ → ℕ
line_length [] = 0
line_length (c ∷ s) = cond (is_line_end c (slice_index s 0)) 0 (suc (line_length s))

-- where the line that begins at a place ends: its CR LF, or the file's end
unfoldable pub line_ends : List ℕ → ℕ → ℕ
line_ends file place = place + line_length (drop place file)

-- the line that begins at a place, without its CR LF
unfoldable pub line_at : List ℕ → ℕ → List ℕ
line_at file place = part (line_length (drop place file)) file place

-- the line that the ENC part ends at
abbrev pub ecs : List ℕ
ecs = ascii ":ECS"

-- nothing is read at a place: the file ends there, or :ECS stands there, before CR LF or the file's end
unfoldable pub ends_at : List ℕ → ℕ → Bool
ends_at file place = place == (length file) || same_text (line_at file place) ecs

-- what stands at a place: nothing to read, a line and where its CR LF is, or what no CR LF ends
unfoldable pub line_found : List ℕ → ℕ → LineFound
line_found file place =
    cond (ends_at file place) End
    (cond (nat_lt (line_ends file place) (length file)) (Line (line_ends file place)) Unended)
