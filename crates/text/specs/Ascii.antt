-- Texts and characters in quotes, and their bytes: a byte of ASCII is the character's code.
use Rattle.std.specs.Prelude.{ℕ, List, [], ◌∷◌}
use Prim.Native.Char.{Char, code}
use Prim.Native.String.{String, [] as empty, ◌∷◌ as ◌then◌}

-- the byte of a character
abbrev pub byte : Char → ℕ
byte c = code c

-- the bytes of a text
abbrev pub ascii : String → List ℕ
ascii empty = []
ascii (c then s) = byte c ∷ ascii s
