-- The register of manufacturers: 0 to 256 entries of seven bytes, M_ID then M_KEY, strictly rising by M_ID.
use Rattle.std.specs.Prelude.{Bool, true, cond, ◌&&◌, ◌||◌, List, ℕ, zero, suc, ◌+◌, ◌-◌, ◌*◌, ◌/◌, ◌%◌, leb, ltb, eqb, length, Option, Some, None}
use Rattle.octets.specs.Places.{number_at}
use Rattle.forms.specs.Identifiers.{is_mId, is_mKey}

-- the M_ID of entry i, counted from 0
abbrev pub m_id_of : List ℕ → ℕ → ℕ
m_id_of register i = number_at 2 register (7 * i)

-- its M_KEY
abbrev pub m_key_of : List ℕ → ℕ → ℕ
m_key_of register i = number_at 5 register (7 * i + 2)

-- entry i has the form, and its M_ID is above that of the entry before
unfoldable pub is_entry : List ℕ → ℕ → Bool
is_entry register i =
    is_mId (m_id_of register i) && is_mKey (m_key_of register i) && (eqb i 0 || ltb (m_id_of register (i - 1)) (m_id_of register i))

-- the first n entries are so
unfoldable pub are_entries : List ℕ → ℕ → Bool
are_entries register zero = true
are_entries register (suc n) = are_entries register n && is_entry register n

-- the register is undamaged
unfoldable pub is_register : List ℕ → Bool
is_register register =
    eqb (length register % 7) 0 && leb (length register) 1792 && are_entries register (length register / 7)

-- the M_KEY of an M_ID among the first n entries
unfoldable pub key_among : List ℕ → ℕ → ℕ → Option ℕ
key_among register m zero = None
key_among register m (suc n) = cond (eqb (m_id_of register n) m) (Some (m_key_of register n)) (key_among register m n)

-- the M_KEY of an M_ID, if it is in the register
unfoldable pub key_of : List ℕ → ℕ → Option ℕ
key_of register m = key_among register m (length register / 7)
