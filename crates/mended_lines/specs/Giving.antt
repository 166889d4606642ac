-- What a line gives, put into two outputs. For contracts inside the crate and above.
use Rattle.std.specs.Prelude.{Bool, false, cond, not, List, [], ◌∷◌, ◌++◌, ℕ, length}
use Rattle.text.specs.Ascii.{ascii}
use Rattle.text.specs.Characters.{raised_text}
use Rattle.text.specs.Texts.{same_text, placed}
use Rattle.cell_permit.specs.CellPermit.{line_end}
use Rattle.file_lines.specs.Lines.{ecs}
use Rattle.mailed_lines.specs.Saying.{said, faults_said, out_said}
use Rattle.mended_lines.specs.Gives.{Gives}
use Rattle.mended_lines.specs.declared.Places.{Places}
use Rattle.mended_lines.specs.declared.Given.{Given}

-- how many bytes it has of both, and whether lines after it are looked at
abbrev pub given : Gives → Given
given g = record { file = length g.file; list = length g.list; more = g.more }

-- the two outputs afterwards
abbrev pub out_after : Gives → Places → List ℕ → List ℕ
out_after g at out = placed at.file g.file out

abbrev pub list_after : Gives → Places → List ℕ → List ℕ
list_after g at list = placed at.list g.list list

-- a text with its letters raised, or as it is
abbrev pub cased : Bool → List ℕ → List ℕ
cased raise text = cond raise (raised_text text) text

-- what :ECS gives, as its faults are found
abbrev pub last_gives : Bool → Bool → ℕ → List ℕ → List ℕ → Gives
last_gives eol blank count line after = record {
  file = (ecs ++ line_end) ++ after;
  list = faults_said eol blank (not (same_text (raised_text line) line)) count;
  more = false;
}

-- what the list says where :ECS is added: the line that is left out, if it has any byte, and :ECS
unfoldable pub added_said : ℕ → ℕ → List ℕ → List ℕ
added_said count next [] = said count (ascii "ECS")
added_said count next (c ∷ line) = out_said count (c ∷ line) ++ said next (ascii "ECS")
