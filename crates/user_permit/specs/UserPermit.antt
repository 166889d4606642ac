-- User permits: 28 characters, made and read.
use Rattle.std.specs.Prelude.{Bool, ◌&&◌, List, ◌++◌, ℕ, leb, eqb, length, Option, Some, None, Result, Ok}
use Rattle.octets.specs.Numbers.{bytes_of}
use Rattle.octets.specs.Every.{all_of}
use Rattle.octets.specs.Padding.{pad_of, unpad_of}
use Rattle.text.specs.Characters.{raised_text, is_hex, hex_text, hex_number}
use Rattle.text.specs.Texts.{part}
use Rattle.crc32.specs.Crc32.{crc32_of}
use Rattle.blowfish.specs.Cipher.{encipher_of, decipher_of}
use Rattle.blowfish.specs.Schedule.{schedule}
use Rattle.forms.specs.Order.{demand}
use Rattle.forms.specs.Identifiers.{is_hw_id, is_upper_hw_id, raised_hw_id}
use Rattle.forms.specs.Output.{Output, text, refusal}
use Rattle.forms.specs.Refusals.{by, refused}
use Rattle.forms.specs.declared.refusals.Refusal.{Refusal}
use Rattle.user_permit.specs.Register.{is_register, key_of}
use Rattle.user_permit.specs.declared.Ship.{Ship}

-- the words of an M_KEY, which is a key of five bytes
abbrev pub maker_words : ℕ → List ℕ
maker_words key = schedule (bytes_of 5 key)

-- 16 hex characters: the HW_ID, its letters raised, padded and enciphered under M_KEY
unfoldable pub hw_id_part : ℕ → ℕ → List ℕ
hw_id_part key hw = hex_text 16 (encipher_of (maker_words key) (pad_of 5 (raised_hw_id hw)))

-- 8: the CRC-32 of those 16 characters as text
unfoldable pub crc_part : List ℕ → List ℕ
crc_part s = hex_text 8 (crc32_of s)

-- 4: the two M_ID bytes in hex
unfoldable pub m_id_part : ℕ → List ℕ
m_id_part m = hex_text 4 m

-- the user permit of a HW_ID, for the manufacturer m with this key
unfoldable pub user_permit : ℕ → ℕ → ℕ → List ℕ
user_permit key hw m = hw_id_part key hw ++ (crc_part (hw_id_part key hw) ++ m_id_part m)

-- with the manufacturer's key, if there is one: 107 where M_ID is not in the register
abbrev pub made_for : Option ℕ → ℕ → ℕ → Output
made_for (Some key) hw m = text (user_permit key hw m)
made_for None hw m = refusal (by 107)

-- making one, into an output of so many bytes
unfoldable pub made : List ℕ → ℕ → ℕ → ℕ → Output
made register hw m room =
    demand (is_register register) (refusal (by 109))
    (demand (leb 28 room) (refusal (by 108))
    (demand (is_hw_id hw) (refusal (by 18))
    (made_for (key_of register m) hw m)))

-- 28 of 0-9 A-F a-f
unfoldable pub is_permit_text : List ℕ → Bool
is_permit_text permit = eqb (length permit) 28 && all_of is_hex permit

-- the CRC-32 part is that of the 16 characters with their letters raised
unfoldable pub is_crc_right : List ℕ → Bool
is_crc_right permit = eqb (hex_number (part 8 permit 16)) (crc32_of (raised_text (part 16 permit 0)))

-- the M_ID that the permit names
abbrev pub permit_mId : List ℕ → ℕ
permit_mId permit = hex_number (part 4 permit 24)

-- what was deciphered has its padding and the form of a HW_ID in upper case, else 18
abbrev pub ship_of : Option ℕ → ℕ → Result Ship Refusal
ship_of (Some hw) m = demand (is_upper_hw_id hw) (refused (by 18)) (Ok (record { hw_id = hw; m_id = m }))
ship_of None m = refused (by 18)

-- with the manufacturer's key, if there is one: 107 where M_ID is not in the register
abbrev pub read_under : Option ℕ → List ℕ → Result Ship Refusal
read_under (Some key) permit = ship_of (unpad_of 5 (decipher_of (maker_words key) (hex_number (part 16 permit 0)))) (permit_mId permit)
read_under None permit = refused (by 107)

-- what one says by the register's entries: 106, 17, 107, 18 in their order, or its ship
unfoldable pub permit_says : List ℕ → List ℕ → Result Ship Refusal
permit_says register permit =
    demand (is_permit_text permit) (refused (by 106))
    (demand (is_crc_right permit) (refused (by 17))
    (read_under (key_of register (permit_mId permit)) permit))

-- reading one
unfoldable pub read_permit : List ℕ → List ℕ → Result Ship Refusal
read_permit register permit = demand (is_register register) (refused (by 109)) (permit_says register permit)
