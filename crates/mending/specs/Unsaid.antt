-- What mending promises of every old line: it is kept or left out, never both, and nothing disappears unsaid.
use Rattle.std.specs.Prelude.{◌≡◌, Bool, true, false, cond, not, List, [], ◌∷◌, ◌++◌, ◌⊎◌, ℕ, suc, drop}
use Rattle.text.specs.Ascii.{ascii}
use Rattle.cell_permit.specs.CellPermit.{line_end}
use Rattle.file_lines.specs.Lines.{ecs}
use Rattle.file_lines.specs.Texts.{lf}
use Rattle.mailed_lines.specs.Texts.{texts_of, joined}
use Rattle.mailed_lines.specs.Mailed.{ends_in_cr, line_of, unblanked, is_ecs, fate_of}
use Rattle.mailed_lines.specs.Saying.{said, out_said}
use Rattle.mailed_lines.specs.declared.Fate.{Fate}
use Rattle.mailed_lines.specs.declared.Fate.TheVariants.{Kept, Last, Out}
use Rattle.mended_lines.specs.Gives.{faults_of}
use Rattle.mending.specs.Mending.{mended_from, mended_of, is_mended}

-- an old line: its count, how it stands in the old file, its bytes, whether it is kept, how it then stands in the mended file, and its faults
pub record Old : Type 0 where
  pub count : ℕ
  pub text : List ℕ
  pub line : List ℕ
  pub kept : Bool
  pub mended : List ℕ
  pub faults : List ℕ

-- a line that LF ends, which comes to `mended`
unfoldable pub ended_old : Bool → ℕ → List ℕ → List ℕ → Old
ended_old kept count text mended = record {
  count = count;
  text = text ++ (lf ∷ []);
  line = line_of text;
  kept = kept;
  mended = mended ++ line_end;
  faults = faults_of (not (ends_in_cr text)) count (line_of text) mended;
}

-- it, and the lines after it unless it is :ECS
abbrev pub old_by : Fate → ℕ → List ℕ → List Old → List Old
old_by Kept count text later = ended_old true count text (unblanked (line_of text)) ∷ later
old_by Last count text later = ended_old true count text ecs ∷ []
old_by Out count text later = ended_old false count text (unblanked (line_of text)) ∷ later

-- a line that no LF ends
unfoldable pub unended_old : ℕ → List ℕ → List Old
unended_old count [] = []
unended_old count (c ∷ line) =
    record {
      count = count;
      text = c ∷ line;
      line = c ∷ line;
      kept = is_ecs (unblanked (c ∷ line));
      mended = ecs;
      faults = faults_of false count (c ∷ line) ecs;
    } ∷ []

-- the old lines of these texts up to :ECS, the first of them counted so
unfoldable pub old_from : ℕ → List (List ℕ) → List Old
old_from count [] = []
old_from count (text ∷ []) = unended_old count text
old_from count (text ∷ next ∷ rest) = old_by (fate_of (unblanked (line_of text))) count text (old_from (suc count) (next ∷ rest))

-- those after the header
abbrev pub old_lines : List ℕ → List Old
old_lines file = old_from 4 (drop 3 (texts_of file))

-- what each old line gives, one after the other
unfoldable pub each : (Old → List ℕ) → List Old → List ℕ
each f [] = []
each f (o ∷ olds) = f o ++ each f olds

-- in the mended file: nothing where it is left out
abbrev pub in_file : Old → List ℕ
in_file o = cond o.kept o.mended []

-- in the list: its faults, or that it is left out, with its bytes
abbrev pub in_list : Old → List ℕ
in_list o = cond o.kept o.faults (out_said o.count o.line)

-- what follows :ECS in these texts
unfoldable pub after_ecs : List (List ℕ) → List ℕ
after_ecs [] = []
after_ecs (text ∷ []) = []
after_ecs (text ∷ next ∷ rest) = cond (is_ecs (unblanked (line_of text))) (joined (next ∷ rest)) (after_ecs (next ∷ rest))

-- what is added to the file and to the list where no line is :ECS
pub record Added : Type 0 where
  pub file : List ℕ
  pub list : List ℕ

unfoldable pub added_after : ℕ → List (List ℕ) → Added
added_after count [] = record { file = []; list = [] }
added_after count ([] ∷ []) = record { file = ecs ++ line_end; list = said count (ascii "ECS") }
added_after count ((c ∷ line) ∷ []) =
    cond (is_ecs (unblanked (c ∷ line)))
    (record { file = []; list = [] })
    (record { file = ecs ++ line_end; list = said (suc count) (ascii "ECS") })
added_after count (text ∷ next ∷ rest) =
    cond (is_ecs (unblanked (line_of text))) (record { file = []; list = [] }) (added_after (suc count) (next ∷ rest))

-- from any text on: the old lines and what follows :ECS are the old file; the mended file is what the kept ones give, and what follows :ECS or is added;
-- the list is what each gives, and what is said of an added :ECS
abbrev pub EachLine : Type 0
EachLine =
    (count : ℕ) (texts : List (List ℕ))
    → (each (λ (o : Old). o.text) (old_from count texts) ++ after_ecs texts ≡ joined texts)
    × (((mended_from count texts).file ≡ each in_file (old_from count texts) ++ (after_ecs texts ++ (added_after count texts).file))
    × ((mended_from count texts).list ≡ each in_list (old_from count texts) ++ (added_after count texts).list))

-- an old line is among these
abbrev pub Among : Old → List Old → Type 0
Among o [] = ⊥
Among o (p ∷ olds) = (o ≡ p) ⊎ Among o olds

-- what stands in a text, with so much before and after it
pub record Within (what text : List ℕ) : Type 0 where
  pub before : List ℕ
  pub after : List ℕ
  pub whole : text ≡ before ++ (what ++ after)

-- of a file that is mended, every old line that is left out is in the list with its bytes, and every other is in the mended file
abbrev pub NothingUnsaid : Type 0
NothingUnsaid =
    (file : List ℕ) → is_mended file ≡ true → (o : Old) → Among o (old_lines file)
    → (o.kept ≡ false → Within (out_said o.count o.line) (mended_of file).list)
    × (o.kept ≡ true → Within o.mended (mended_of file).file)
