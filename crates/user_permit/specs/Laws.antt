-- What the crates above rest on: laws of reading a user permit.
use Rattle.std.specs.Prelude.{◌≡◌, true, List, ℕ, Ok}
use Rattle.forms.specs.Identifiers.{is_hw_id}
use Rattle.user_permit.specs.Register.{is_register}
use Rattle.user_permit.specs.UserPermit.{permit_says, read_permit}
use Rattle.user_permit.specs.declared.Ship.{Ship}

-- with an undamaged register a user permit is read as what it says
abbrev pub ReadUndamaged : Type 0
ReadUndamaged = (register permit : List ℕ) → is_register register ≡ true → read_permit register permit ≡ permit_says register permit

-- a user permit that is read as a ship gives a HW_ID of the form
abbrev pub ShipForm : Type 0
ShipForm = (ship : Ship) (register permit : List ℕ) → read_permit register permit ≡ Ok ship → is_hw_id ship.hw_id ≡ true
