-- Cell files opened: by two cell keys and the CRC-32 of the bytes that were enciphered. The first key that is right is taken.
use Rattle.std.specs.Prelude.{Bool, cond, ◌&&◌, ◌||◌, List, ℕ, ◌+◌, ◌-◌, ◌/◌, ◌%◌, eqb, leb, length, get_or, take, drop}
use Rattle.octets.specs.Every.{all_of}
use Rattle.crc32.specs.Crc32.{crc32_of}
use Rattle.blowfish.specs.Cipher.{decipher_of}
use Rattle.blocks.specs.Blocks.{each_block}
use Rattle.forms.specs.Order.{demand}
use Rattle.forms.specs.Identifiers.{is_cell_key}
use Rattle.forms.specs.Refusals.{by, number_of}
use Rattle.forms.specs.declared.refusals.Refusal.{Refusal}
use Rattle.cell_file.specs.Enciphering.{most, cell_words}

-- the whole blocks of s deciphered
unfoldable pub deciphered : ℕ → List ℕ → List ℕ
deciphered key s = each_block (decipher_of (cell_words key)) (length s / 8) s

-- how many bytes of padding s says that it has: its last byte
abbrev pub padding_of : List ℕ → ℕ
padding_of s = get_or s (length s - 1) 0

-- right padding: s ends in n bytes n, 1 to 8
unfoldable pub is_padded_file : List ℕ → Bool
is_padded_file s =
    leb 1 (padding_of s) && leb (padding_of s) 8 && all_of (λ (b : ℕ). eqb b (padding_of s)) (drop (length s - padding_of s) s)

-- what stands before the padding
unfoldable pub unpadded_file : List ℕ → List ℕ
unpadded_file s = take (length s - padding_of s) s

-- a key gives right padding
unfoldable pub gives_padding : ℕ → List ℕ → Bool
gives_padding key file = is_padded_file (deciphered key file)

-- what a key makes of a file
unfoldable pub text_under : ℕ → List ℕ → List ℕ
text_under key file = unpadded_file (deciphered key file)

-- a key gives right padding, and before it bytes of this CRC-32
unfoldable pub is_right_key : ℕ → ℕ → List ℕ → Bool
is_right_key crc key file = gives_padding key file && eqb (crc32_of (text_under key file)) crc

-- what opening gives: which key was taken, 1 or 2, and the text; or the refusal
pub data Opened : Type 0 where
  opened : ℕ → List ℕ → Opened
  refused : Refusal → Opened

-- the answer's number: 0 for done
abbrev pub opened_number : Opened → ℕ
opened_number (opened key t) = 0
opened_number (refused r) = number_of r

-- the length is no zero and a multiple of 8
abbrev pub has_blocks : List ℕ → Bool
has_blocks file = leb 1 (length file) && eqb (length file % 8) 0

-- opening a file by two keys and the CRC-32 of what was enciphered: the first key that is right is taken
unfoldable pub opened_file : List ℕ → ℕ → ℕ → ℕ → ℕ → Opened
opened_file file one two crc room =
    demand (is_cell_key one && is_cell_key two && leb (length file) (most + 8)) (refused (by 103))
    (demand (leb (length file) room) (refused (by 108))
    (demand (has_blocks file) (refused (by 12))
    (demand (gives_padding one file || gives_padding two file) (refused (by 21))
    (demand (is_right_key crc one file || is_right_key crc two file) (refused (by 16))
    (cond (is_right_key crc one file) (opened 1 (text_under one file)) (opened 2 (text_under two file)))))))
