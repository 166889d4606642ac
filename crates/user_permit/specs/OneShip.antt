-- What user permits promise: one ship, one user permit. Each speaks of one register, which is undamaged where anything is made or accepted by it.
use Rattle.std.specs.Prelude.{◌≡◌, ◌↔◌, List, ℕ, ◌≤◌, Ok}
use Rattle.octets.specs.Numbers.{Below}
use Rattle.text.specs.Characters.{raised_text}
use Rattle.forms.specs.Identifiers.{raised_hw_id}
use Rattle.forms.specs.Output.{text}
use Rattle.user_permit.specs.UserPermit.{made, read_permit}
use Rattle.user_permit.specs.declared.Ship.{Ship}

-- two user permits that we make are equal exactly when their M_IDs are, and their HW_IDs with letters raised
abbrev pub OneShipOnePermit : Type 0
OneShipOnePermit =
    (register s t : List ℕ) (hw m room hw₂ m₂ room₂ : ℕ)
    → Below 256 register → made register hw m room ≡ text s → made register hw₂ m₂ room₂ ≡ text t
    → (s ≡ t) ↔ ((m ≡ m₂) × (raised_hw_id hw ≡ raised_hw_id hw₂))

-- a user permit that is accepted is, with its letters raised, the one that making gives for the HW_ID and M_ID that it was read to
abbrev pub AcceptedAsMade : Type 0
AcceptedAsMade =
    (register s : List ℕ) (ship : Ship) (room : ℕ)
    → read_permit register s ≡ Ok ship → 28 ≤ room → made register ship.hw_id ship.m_id room ≡ text (raised_text s)

-- so two texts that are accepted are read to the same M_ID and HW_ID exactly when they are equal with letters raised
abbrev pub OnePermitOneShip : Type 0
OnePermitOneShip =
    (register s t : List ℕ) (one two : Ship)
    → read_permit register s ≡ Ok one → read_permit register t ≡ Ok two
    → (raised_text s ≡ raised_text t) ↔ ((one.m_id ≡ two.m_id) × (one.hw_id ≡ two.hw_id))
