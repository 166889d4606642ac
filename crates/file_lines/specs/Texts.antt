-- Texts that LF ends.
use Rattle.std.specs.Prelude.{ℕ, suc, ◌+◌, Bool, cond, List, [], ◌∷◌, drop, ◌==◌}
use Rattle.text.specs.Ascii.{byte}

-- LF
abbrev pub lf : ℕ
lf = byte "\n"

-- a byte is LF
abbrev pub is_lf : ℕ → Bool
is_lf c = c == lf

-- how many bytes stand before the first LF; all where there is none
unfoldable pub text_length : List ℕ → ℕ
text_length [] = 0
text_length (c ∷ s) = cond (c == lf) 0 (suc (text_length s))

-- where the text that begins at a place ends: its LF, or the file's end
unfoldable pub text_ends : List ℕ → ℕ → ℕ
text_ends file place = place + text_length (drop place file)
