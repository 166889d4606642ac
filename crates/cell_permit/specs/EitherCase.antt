-- What cell permits promise: the case of letters in the three cipher parts, and in a HW_ID, does not matter, whether a line is accepted or not, and what is
-- written is in capitals.
use Rattle.std.specs.Prelude.{◌≡◌, List, ℕ, take, drop}
use Rattle.text.specs.Characters.{raised_text}
use Rattle.text.specs.Texts.{part}
use Rattle.forms.specs.Identifiers.{raised_hw_id}
use Rattle.forms.specs.Output.{InCapitals}
use Rattle.cell_permit.specs.CellPermit.{ship_words, written_line}
use Rattle.cell_permit.specs.Line.{read_with, given_number, read_line, comment_of, comment_at, comment_start}
use Rattle.cell_permit.specs.declared.Cell.{Cell}

-- two lines that differ at most in the case of letters in characters 17 to 64
pub record CaseAlone (s t : List ℕ) : Type 0 where
  pub start : take 16 s ≡ take 16 t
  pub cipher : raised_text (part 48 s 16) ≡ raised_text (part 48 t 16)
  pub rest : drop 64 s ≡ drop 64 t

-- HW_IDs that differ in case alone have the same words, and are judged alike
abbrev pub ShipEitherCase : Type 0
ShipEitherCase =
    (hw k : ℕ) → raised_hw_id hw ≡ raised_hw_id k
    → (ship_words hw ≡ ship_words k) × ((today days : ℕ) → given_number hw today days ≡ given_number k today days)

-- under one ship's words the two lines are read as the same
abbrev pub ReadEitherCase : Type 0
ReadEitherCase = (words : List ℕ) (today days : ℕ) (s t : List ℕ) → CaseAlone s t → read_with words today days s ≡ read_with words today days t

-- so they are for HW_IDs that differ in case alone
abbrev pub LineEitherCase : Type 0
LineEitherCase =
    (hw k today days : ℕ) (s t : List ℕ) → raised_hw_id hw ≡ raised_hw_id k → CaseAlone s t
    → read_line hw today days s ≡ read_line k today days t

-- their comment is the same, at the same place
abbrev pub CommentEitherCase : Type 0
CommentEitherCase =
    (s t : List ℕ) → CaseAlone s t
    → (comment_of s ≡ comment_of t) × ((comment_at s ≡ comment_at t) × (comment_start s ≡ comment_start t))

-- for HW_IDs that differ in case alone the same line is written
abbrev pub WrittenEitherCase : Type 0
WrittenEitherCase = (hw k room : ℕ) (cell : Cell) → raised_hw_id hw ≡ raised_hw_id k → written_line hw cell room ≡ written_line k cell room

-- what is written is in capitals
abbrev pub WrittenInCapitals : Type 0
WrittenInCapitals = (hw room : ℕ) (cell : Cell) → InCapitals (written_line hw cell room)
