-- What the answers hand out, case by case; their numbers stand beside their calls. A refusal hands out nothing: every value is 0.
use Rattle.std.specs.Prelude.{ℕ, Option, Some, None, Result, Ok, Err}
use Rattle.forms.specs.declared.refusals.Refusal.{Refusal}
use Rattle.user_permit.specs.declared.Ship.{Ship}

-- the number of a look into the register: 107 where M_ID is not in it
abbrev pub maker_number : Option ℕ → ℕ
maker_number (Some key) = 0
maker_number None = 107

-- the M_KEY that was found
abbrev pub maker_key : Option ℕ → ℕ
maker_key (Some key) = key
maker_key None = 0

-- the HW_ID of a user permit that was read
abbrev pub ship_hw_id : Result Ship Refusal → ℕ
ship_hw_id (Ok ship) = ship.hw_id
ship_hw_id (Err r) = 0

-- its M_ID
abbrev pub ship_mId : Result Ship Refusal → ℕ
ship_mId (Ok ship) = ship.m_id
ship_mId (Err r) = 0
