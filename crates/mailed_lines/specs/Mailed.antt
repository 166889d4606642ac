-- One line of a mailed permit file: its bytes, and what becomes of them.
use Rattle.std.specs.Prelude.{Bool, false, cond, List, [], ◌∷◌, ℕ, eqb}
use Rattle.text.specs.Ascii.{byte}
use Rattle.text.specs.Characters.{raised_text}
use Rattle.text.specs.Texts.{same_text}
use Rattle.cell_permit.specs.Line.{is_line}
use Rattle.file_lines.specs.Lines.{ecs}
use Rattle.mailed_lines.specs.declared.Fate.{Fate}
use Rattle.mailed_lines.specs.declared.Fate.TheVariants.{Kept, Last, Out}

-- a CR stands at a text's end
unfoldable pub ends_in_cr : List ℕ → Bool
ends_in_cr [] = false
ends_in_cr (c ∷ []) = eqb c (byte "\r")
ends_in_cr (c ∷ d ∷ s) = ends_in_cr (d ∷ s)

-- the bytes of a line: those before its LF, less one CR directly before it
unfoldable pub line_of : List ℕ → List ℕ
line_of [] = []
line_of (c ∷ []) = cond (eqb c (byte "\r")) [] (c ∷ [])
line_of (c ∷ d ∷ s) = c ∷ line_of (d ∷ s)

-- a byte before what is left of a line: a blank before nothing goes
unfoldable pub before_rest : ℕ → List ℕ → List ℕ
before_rest c [] = cond (eqb c (byte " ")) [] (c ∷ [])
before_rest c (d ∷ s) = c ∷ d ∷ s

-- a line with the blanks at its end gone
unfoldable pub unblanked : List ℕ → List ℕ
unblanked [] = []
unblanked (c ∷ s) = before_rest c (unblanked s)

-- a line whose blanks are gone is :ECS, in any case of its letters
unfoldable pub is_ecs : List ℕ → Bool
is_ecs line = same_text (raised_text line) ecs

-- what becomes of a line after the third, whose blanks are gone: :ECS is the last that is looked at, and one that would give 12 is left out
unfoldable pub fate_of : List ℕ → Fate
fate_of line = cond (is_ecs line) Last (cond (is_line line) Kept Out)
