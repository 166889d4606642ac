-- Values as people write them. A text that is none gives C a number that every call refuses, and a number that is none gives the empty text.
use Rattle.std.specs.Prelude.{Bool, cond, ◌&&◌, List, [], ℕ, ◌-◌, ◌^◌, eqb, length, replicate, Option, Some, None, unwrap_or}
use Rattle.octets.specs.Numbers.{bytes_of, bytes_number}
use Rattle.octets.specs.Every.{all_of}
use Rattle.text.specs.Characters.{raised_text, is_digit, is_upper_hex, is_name_character, hex_text, hex_number, decimal_text, decimal_number}
use Rattle.text.specs.Texts.{placed}
use Rattle.dates.specs.Calendar.{is_date}
use Rattle.forms.specs.Identifiers.{is_text, raised_hw_id, is_cell_key}

-- so many characters, each of which passes the test, and nothing else
unfoldable pub is_word : (ℕ → Bool) → ℕ → List ℕ → Bool
is_word test n t = eqb (length t) n && all_of test t

-- an identifier: the number of its bytes
unfoldable pub identifier_read : (ℕ → Bool) → ℕ → List ℕ → Option ℕ
identifier_read test n t = cond (is_word test n t) (Some (bytes_number t)) None

-- cell name: eight of A-Z 0-9
abbrev pub name_read : List ℕ → Option ℕ
name_read t = identifier_read is_name_character 8 t

-- HW_ID: five of 0-9 A-F a-f, which are raised
abbrev pub hw_id_read : List ℕ → Option ℕ
hw_id_read t = identifier_read is_upper_hex 5 (raised_text t)

-- a code, as M_ID, Data Server ID and producer are: two of A-Z 0-9
abbrev pub code_read : List ℕ → Option ℕ
code_read t = identifier_read is_name_character 2 t

-- cell key: ten of 0-9 A-F
unfoldable pub key_read : List ℕ → Option ℕ
key_read t = cond (is_word is_upper_hex 10 t) (Some (hex_number t)) None

-- eight digits that are a date
unfoldable pub is_date_word : List ℕ → Bool
is_date_word t = is_word is_digit 8 t && is_date (decimal_number t)

-- date: its digits as a number
unfoldable pub date_read : List ℕ → Option ℕ
date_read t = cond (is_date_word t) (Some (decimal_number t)) None

-- what a text that is none gives to C: all ones, in 64 bits or in 32, which is no value of any form
abbrev pub none64 : ℕ
none64 = 2 ^ 64 - 1

abbrev pub none32 : ℕ
none32 = 2 ^ 32 - 1

-- what a text gives to C: its value, or that number
abbrev pub identifier_from : ℕ → (ℕ → Bool) → ℕ → List ℕ → ℕ
identifier_from none test n t = unwrap_or (identifier_read test n t) none

abbrev pub name_from : List ℕ → ℕ
name_from t = unwrap_or (name_read t) none64

abbrev pub hw_id_from : List ℕ → ℕ
hw_id_from t = unwrap_or (hw_id_read t) none64

abbrev pub code_from : List ℕ → ℕ
code_from t = unwrap_or (code_read t) none32

abbrev pub key_from : List ℕ → ℕ
key_from t = unwrap_or (key_read t) none64

abbrev pub date_from : List ℕ → ℕ
date_from t = unwrap_or (date_read t) none32

-- an identifier as its characters
unfoldable pub identifier_to : (ℕ → Bool) → ℕ → ℕ → List ℕ
identifier_to test n x = cond (is_text test n x) (bytes_of n x) []

-- cell name
abbrev pub name_to : ℕ → List ℕ
name_to x = identifier_to is_name_character 8 x

-- HW_ID, its letters raised
abbrev pub hw_id_to : ℕ → List ℕ
hw_id_to x = identifier_to is_upper_hex 5 (raised_hw_id x)

-- a code
abbrev pub code_to : ℕ → List ℕ
code_to x = identifier_to is_name_character 2 x

-- cell key
unfoldable pub key_to : ℕ → List ℕ
key_to x = cond (is_cell_key x) (hex_text 10 x) []

-- date: YYYYMMDD
unfoldable pub date_to : ℕ → List ℕ
date_to x = cond (is_date x) (decimal_text 8 x) []

-- the 64 bytes that C gets of a text: zeros with the text put at their start
abbrev pub spelled : List ℕ → List ℕ
spelled t = placed 0 t (replicate 64 0)
