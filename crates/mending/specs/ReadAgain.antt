-- What mending promises of reading: the mended file is read without 12, and its answers are those of the kept lines.
use Rattle.std.specs.Prelude.{◌≡◌, Bool, true, List, [], ◌∷◌, map, ℕ, Result, eqb, drop}
use Rattle.octets.specs.Every.{count_of}
use Rattle.forms.specs.declared.refusals.Refusal.{Refusal}
use Rattle.cell_permit.specs.Line.{given_number, read_line, line_number}
use Rattle.cell_permit.specs.declared.Record.{Record}
use Rattle.permit_file.specs.File.{step_by, step_of}
use Rattle.permit_file.specs.Answers.{enc_answers}
use Rattle.mailed_lines.specs.Texts.{texts_of}
use Rattle.mailed_lines.specs.Mailed.{line_of, unblanked, fate_of}
use Rattle.mailed_lines.specs.declared.Fate.{Fate}
use Rattle.mailed_lines.specs.declared.Fate.TheVariants.{Kept, Last, Out}
use Rattle.mending.specs.Mending.{mended_of, is_mended}

-- a line before those that are kept after it; none is after :ECS
abbrev pub kept_by : Fate → List ℕ → List (List ℕ) → List (List ℕ)
kept_by Kept line later = line ∷ later
kept_by Last line later = []
kept_by Out line later = later

-- the records among these texts that are kept, mended: what no LF ends is none
unfoldable pub kept_from : List (List ℕ) → List (List ℕ)
kept_from [] = []
kept_from (text ∷ []) = []
kept_from (text ∷ next ∷ rest) = kept_by (fate_of (unblanked (line_of text))) (unblanked (line_of text)) (kept_from (next ∷ rest))

-- those of a file, after its three header lines
abbrev pub kept_lines : List ℕ → List (List ℕ)
kept_lines file = kept_from (drop 3 (texts_of file))

-- however a line is read, the answers of the mended file are those that the kept lines give, one by one and in their order
abbrev pub ReadsAsKept : Type 0
ReadsAsKept =
    (read : List ℕ → Result Record Refusal) (file : List ℕ) → is_mended file ≡ true → enc_answers read (mended_of file).file ≡ map read (kept_lines file)

-- an answer is the refusal 12
abbrev pub is_twelve : Result Record Refusal → Bool
is_twelve a = eqb (line_number a) 12

-- for a good HW_ID, today and days, steps read each line as it is read by itself, and no answer of the mended file is 12
abbrev pub NoTwelve : Type 0
NoTwelve =
    (hw today days : ℕ) (file : List ℕ) → given_number hw today days ≡ 0 → is_mended file ≡ true
    → ((place : ℕ) → step_of hw today days (mended_of file).file place ≡ step_by (read_line hw today days) (mended_of file).file place)
    × (count_of is_twelve (enc_answers (read_line hw today days) (mended_of file).file) ≡ 0)
