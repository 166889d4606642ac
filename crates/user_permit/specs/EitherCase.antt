-- What user permits promise: the case of letters does not matter, whether a permit is accepted or not, and what is made is in capitals.
use Rattle.std.specs.Prelude.{◌≡◌, List, ℕ}
use Rattle.text.specs.Characters.{raised_text}
use Rattle.forms.specs.Identifiers.{raised_hw_id}
use Rattle.forms.specs.Output.{InCapitals}
use Rattle.user_permit.specs.UserPermit.{made, permit_says, read_permit}

-- texts that differ in the case of letters alone are read as the same
abbrev pub PermitEitherCase : Type 0
PermitEitherCase = (register s t : List ℕ) → raised_text s ≡ raised_text t → read_permit register s ≡ read_permit register t

-- so they are by a register that nobody has judged
abbrev pub SaysEitherCase : Type 0
SaysEitherCase = (register s t : List ℕ) → raised_text s ≡ raised_text t → permit_says register s ≡ permit_says register t

-- of HW_IDs that differ in the case of letters alone the same is made
abbrev pub MadeEitherCase : Type 0
MadeEitherCase =
    (register : List ℕ) (hw k m room : ℕ) → raised_hw_id hw ≡ raised_hw_id k → made register hw m room ≡ made register k m room

-- what is made is in capitals
abbrev pub MadeInCapitals : Type 0
MadeInCapitals = (register : List ℕ) (hw m room : ℕ) → InCapitals (made register hw m room)
