-- What user permits promise: one changed character is refused.
use Rattle.std.specs.Prelude.{◌≡◌, Bool, true, false, List, ℕ, ◌<◌, get_or, Result, Ok, Err}
use Rattle.octets.specs.Numbers.{Below}
use Rattle.text.specs.Characters.{raised}
use Rattle.crc32.specs.OneChange.{DifferAt}
use Rattle.forms.specs.declared.refusals.Refusal.{Refusal}
use Rattle.user_permit.specs.UserPermit.{read_permit}
use Rattle.user_permit.specs.declared.Ship.{Ship}

-- the user permit is accepted
abbrev pub is_ship : Result Ship Refusal → Bool
is_ship (Ok ship) = true
is_ship (Err r) = false

-- an accepted user permit with any one of its first 24 characters changed to any byte other than the same letter in the other case is refused
abbrev pub UserPermitGuarded : Type 0
UserPermitGuarded =
    (register s t : List ℕ) (i : ℕ) → Below 256 s → Below 256 t → i < 24 → DifferAt i s t
    → (raised (get_or s i 0) ≡ raised (get_or t i 0) → ⊥)
    → is_ship (read_permit register s) ≡ true → is_ship (read_permit register t) ≡ false
