-- What each line of a mailed permit file gives: its part of the mended file, and its part of the list.
use Rattle.std.specs.Prelude.{Bool, true, false, cond, not, List, [], ◌∷◌, ◌++◌, ℕ}
use Rattle.text.specs.Ascii.{ascii}
use Rattle.text.specs.Characters.{raised_text}
use Rattle.text.specs.Texts.{same_text}
use Rattle.cell_permit.specs.CellPermit.{line_end}
use Rattle.file_lines.specs.Lines.{ecs}
use Rattle.mailed_lines.specs.Mailed.{ends_in_cr, line_of, unblanked, is_ecs}
use Rattle.mailed_lines.specs.Saying.{said, faults_said, out_said}
use Rattle.mailed_lines.specs.declared.Fate.{Fate}
use Rattle.mailed_lines.specs.declared.Fate.TheVariants.{Kept, Last, Out}

-- what a line gives of the mended file and of the list, and whether lines after it are looked at
pub record Gives : Type 0 where
  pub file : List ℕ
  pub list : List ℕ
  pub more : Bool

-- what is said of a line that is kept as `mended`: EOL where its LF has no CR, BLANK where blanks stood at its end, CASE where letters were raised
abbrev pub faults_of : Bool → ℕ → List ℕ → List ℕ → List ℕ
faults_of eol count line mended =
    faults_said eol (not (same_text (unblanked line) line)) (not (same_text mended (unblanked line))) count

-- one of the first three lines: blanks gone, letters raised, ended by CR LF
unfoldable pub header_gives : ℕ → List ℕ → Gives
header_gives count text = record {
  file = raised_text (unblanked (line_of text)) ++ line_end;
  list = faults_of (not (ends_in_cr text)) count (line_of text) (raised_text (unblanked (line_of text)));
  more = true;
}

-- a later line that LF ends, by what becomes of it: kept and ended by CR LF; :ECS, ended so too, and what stands after its LF as it stands; left out
abbrev pub gives_by : Fate → ℕ → List ℕ → List ℕ → Gives
gives_by Kept count text after = record {
  file = unblanked (line_of text) ++ line_end;
  list = faults_of (not (ends_in_cr text)) count (line_of text) (unblanked (line_of text));
  more = true;
}
gives_by Last count text after = record {
  file = (ecs ++ line_end) ++ after;
  list = faults_of (not (ends_in_cr text)) count (line_of text) ecs;
  more = false;
}
gives_by Out count text after = record { file = []; list = out_said count (line_of text); more = true }

-- what no LF ends: :ECS is kept without a line end, all else is left out and :ECS added, counted one past the last line, next where this is one
unfoldable pub unended_gives : ℕ → ℕ → List ℕ → Gives
unended_gives count next [] = record { file = ecs ++ line_end; list = said count (ascii "ECS"); more = false }
unended_gives count next (c ∷ line) =
    cond (is_ecs (unblanked (c ∷ line)))
    (record { file = ecs; list = faults_of false count (c ∷ line) ecs; more = false })
    (record { file = ecs ++ line_end; list = out_said count (c ∷ line) ++ said next (ascii "ECS"); more = false })
