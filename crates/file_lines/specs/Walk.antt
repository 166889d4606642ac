-- What the crates above rest on: what stands at a place says how the ENC part from there on begins.
use Rattle.std.specs.Prelude.{◌≡◌, ℕ, ◌+◌, ◌≤◌, Bool, true, false, List, [], ◌∷◌, length, drop}
use Rattle.file_lines.specs.Lines.{line_at, line_ends, line_found}
use Rattle.file_lines.specs.EncPart.{lines_of, enc_lines, is_closed}
use Rattle.file_lines.specs.declared.LineFound.TheVariants.{Line, Unended, End}

-- the lines of the ENC part from a place on
abbrev pub enc_from : List ℕ → ℕ → List (List ℕ)
enc_from file place = enc_lines (lines_of (drop place file))

-- it is closed
abbrev pub closed_from : List ℕ → ℕ → Bool
closed_from file place = is_closed (lines_of (drop place file))

-- at the end no line is left, and the part is closed
abbrev pub AtEnd : Type 0
AtEnd = (file : List ℕ) (place : ℕ) → line_found file place ≡ End → (enc_from file place ≡ []) × (closed_from file place ≡ true)

-- where no CR LF ends the line none is left, and the part is not closed
abbrev pub AtUnended : Type 0
AtUnended =
    (file : List ℕ) (place : ℕ) → place ≤ length file → line_found file place ≡ Unended
    → (enc_from file place ≡ []) × (closed_from file place ≡ false)

-- a line is the first of the part, the others follow its CR LF, and they say whether it is closed
abbrev pub AtLine : Type 0
AtLine =
    (file : List ℕ) (place end : ℕ) → line_found file place ≡ Line end
    → (enc_from file place ≡ line_at file place ∷ enc_from file (end + 2)) × (closed_from file place ≡ closed_from file (end + 2))

-- it lies within the file: from the place to its end, where CR LF stands
abbrev pub LineWithin : Type 0
LineWithin =
    (file : List ℕ) (place end : ℕ) → line_found file place ≡ Line end
    → (end ≡ line_ends file place) × ((place ≤ end) × (end + 2 ≤ length file))
