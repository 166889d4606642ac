-- What opening promises: what was enciphered is opened to the file, and files stay apart.
use Rattle.std.specs.Prelude.{◌≡◌, true, cond, ◌||◌, List, ℕ, ◌+◌, ◌≤◌, length}
use Rattle.octets.specs.Numbers.{Below}
use Rattle.crc32.specs.Crc32.{crc32_of}
use Rattle.forms.specs.Identifiers.{is_cell_key}
use Rattle.forms.specs.Output.{text}
use Rattle.cell_file.specs.Enciphering.{most, file_written}
use Rattle.cell_opening.specs.Opening.{gives_padding, text_under, is_right_key, opened, opened_number, has_blocks, opened_file}

-- what was enciphered under key one is opened to the file, by its own CRC-32, for every cell key two and an output as long as what was enciphered
abbrev pub OpensUnderOne : Type 0
OpensUnderOne =
    (file t : List ℕ) (one two written room : ℕ) → Below 256 file → file_written one file written ≡ text t → is_cell_key two ≡ true → length t ≤ room
    → opened_file t one two (crc32_of file) room ≡ opened 1 file

-- what was enciphered under key two likewise, unless key one gives right padding and that CRC-32 too: then it is opened to what key one makes of it
abbrev pub OpensUnderTwo : Type 0
OpensUnderTwo =
    (file t : List ℕ) (one two written room : ℕ) → Below 256 file → file_written two file written ≡ text t → is_cell_key one ≡ true → length t ≤ room
    → opened_file t one two (crc32_of file) room ≡ cond (is_right_key (crc32_of file) one t) (opened 1 (text_under one t)) (opened 2 file)

-- which of 21, 16 and 0 comes is said by the padding and the CRC-32 that the two keys give
abbrev pub WhichComes : Type 0
WhichComes =
    (file : List ℕ) (one two crc room : ℕ)
    → is_cell_key one ≡ true → is_cell_key two ≡ true → length file ≤ most + 8 → length file ≤ room → has_blocks file ≡ true
    → opened_number (opened_file file one two crc room)
    ≡ cond (gives_padding one file || gives_padding two file) (cond (is_right_key crc one file || is_right_key crc two file) 0 16) 21

-- enciphering keeps files apart: two that are enciphered to one result under one key are equal
abbrev pub KeepsApart : Type 0
KeepsApart =
    (key room room' : ℕ) (file file' t : List ℕ) → Below 256 file → Below 256 file'
    → file_written key file room ≡ text t → file_written key file' room' ≡ text t → file ≡ file'
