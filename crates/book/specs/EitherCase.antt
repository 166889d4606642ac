-- What the book promises of small letters: their case changes no answer of issue and check, on any book, and what is issued is in capitals.
use Rattle.std.specs.Prelude.{◌≡◌, List, ℕ}
use Rattle.text.specs.Characters.{raised_text}
use Rattle.forms.specs.Identifiers.{raised_hw_id}
use Rattle.forms.specs.Output.{InCapitals}
use Rattle.cell_permit.specs.EitherCase.{CaseAlone}
use Rattle.asking.specs.Asking.{issued_from, checked_by}

-- for user permits that differ in the case of letters alone the same is issued
abbrev pub IssueEitherCase : Type 0
IssueEitherCase =
    (s register permit other : List ℕ) (t name expiry level room : ℕ) → raised_text permit ≡ raised_text other
    → issued_from s register t name expiry level permit room ≡ issued_from s register t name expiry level other room

-- a check answers the same for HW_IDs that differ in case alone, and lines that do in their cipher parts
abbrev pub CheckEitherCase : Type 0
CheckEitherCase =
    (s line other : List ℕ) (t hw k today : ℕ) → raised_hw_id hw ≡ raised_hw_id k → CaseAlone line other
    → checked_by s t hw today line ≡ checked_by s t k today other

-- what is issued is in capitals
abbrev pub IssuedInCapitals : Type 0
IssuedInCapitals =
    (s register permit : List ℕ) (t name expiry level room : ℕ) → InCapitals (issued_from s register t name expiry level permit room)
