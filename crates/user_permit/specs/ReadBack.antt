-- What user permits promise: what we issue reads back.
use Rattle.std.specs.Prelude.{◌≡◌, true, List, ℕ, ◌≤◌, length, Some, Ok}
use Rattle.octets.specs.Numbers.{Below}
use Rattle.forms.specs.Identifiers.{is_hw_id, raised_hw_id}
use Rattle.forms.specs.Output.{text}
use Rattle.user_permit.specs.Register.{is_register, key_of}
use Rattle.user_permit.specs.UserPermit.{user_permit, made, read_permit}

-- every HW_ID of the form and every M_ID in an undamaged register: reading what making gives answers that HW_ID, its letters raised, and M_ID
abbrev pub UserPermitReadsBack : Type 0
UserPermitReadsBack =
    (register : List ℕ) (key hw m room : ℕ)
    → Below 256 register → is_register register ≡ true → is_hw_id hw ≡ true → key_of register m ≡ Some key → 28 ≤ room
    → (made register hw m room ≡ text (user_permit key hw m))
    × ((length (user_permit key hw m) ≡ 28) × (read_permit register (user_permit key hw m) ≡ Ok (record { hw_id = raised_hw_id hw; m_id = m })))
