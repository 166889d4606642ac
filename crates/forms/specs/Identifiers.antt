-- Identifiers are numbers: the big-endian value of their ASCII bytes.
use Rattle.std.specs.Prelude.{Bool, cond, ◌&&◌, List, ◌++◌, ℕ, ◌^◌, ltb, take}
use Rattle.octets.specs.Numbers.{bytes_of, bytes_number}
use Rattle.octets.specs.Every.{all_of}
use Rattle.text.specs.Characters.{raised_text, is_upper_hex, is_hex, is_name_character}

-- x is the number of n bytes that all pass the test
unfoldable pub is_text : (ℕ → Bool) → ℕ → ℕ → Bool
is_text test n x = ltb x (256 ^ n) && all_of test (bytes_of n x)

-- HW_ID as it is given to us: five of 0-9 A-F a-f
abbrev pub is_hw_id : ℕ → Bool
is_hw_id x = is_text is_hex 5 x

-- HW_ID as it is used: five of 0-9 A-F
abbrev pub is_upper_hw_id : ℕ → Bool
is_upper_hw_id x = is_text is_upper_hex 5 x

-- a HW_ID with its letters raised, byte by byte; a number of more than five bytes, which is none, as it is
unfoldable pub raised_hw_id : ℕ → ℕ
raised_hw_id x = cond (ltb x (256 ^ 5)) (bytes_number (raised_text (bytes_of 5 x))) x

-- M_KEY: five of 0-9 A-F
abbrev pub is_mKey : ℕ → Bool
is_mKey x = is_text is_upper_hex 5 x

-- M_ID: two of A-Z 0-9
abbrev pub is_mId : ℕ → Bool
is_mId x = is_text is_name_character 2 x

-- cell name: eight of A-Z 0-9
abbrev pub is_cell_name : ℕ → Bool
is_cell_name x = is_text is_name_character 8 x

-- producer, as a cell name begins: two of A-Z 0-9
abbrev pub is_producer : ℕ → Bool
is_producer x = is_text is_name_character 2 x

-- Data Server ID: two of A-Z 0-9
abbrev pub is_server_id : ℕ → Bool
is_server_id x = is_text is_name_character 2 x

-- cell key: any five bytes
abbrev pub is_cell_key : ℕ → Bool
is_cell_key x = ltb x (256 ^ 5)

-- HW_ID6: the HW_ID followed by its own first byte
unfoldable pub hw_id6 : ℕ → List ℕ
hw_id6 hw = bytes_of 5 hw ++ take 1 (bytes_of 5 hw)
