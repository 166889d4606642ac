-- How a key is judged, and what comes of two: for inner contracts alone.
use Rattle.std.specs.Prelude.{Bool, cond, ◌||◌, List, ℕ, ◌/◌, eqb, length, Option, Some, None, Result, Ok, Err}
use Rattle.octets.specs.Every.{all_of}
use Rattle.crc32.specs.Crc32.{crc32_of}
use Rattle.blocks.specs.Blocks.{each_block}
use Rattle.forms.specs.Order.{demand}
use Rattle.forms.specs.Refusals.{by, number_of}
use Rattle.forms.specs.declared.refusals.Refusal.{Refusal}
use Rattle.cell_opening.specs.Opening.{padding_of, is_padded_file, gives_padding, text_under, is_right_key, Opened, opened, refused}

-- all bytes are b
abbrev pub all_are : ℕ → List ℕ → Bool
all_are b s = all_of (λ (c : ℕ). eqb c b) s

-- how many bytes of padding s has, where it is right
unfoldable pub padding_in : List ℕ → Option ℕ
padding_in s = cond (is_padded_file s) (Some (padding_of s)) None

-- all whole blocks of s
abbrev pub wholes : (ℕ → ℕ) → List ℕ → List ℕ
wholes f s = each_block f (length s / 8) s

-- what a key gives: the length of the text, or why it is not right
unfoldable pub judged : ℕ → ℕ → List ℕ → Result ℕ Refusal
judged crc key file =
    cond (gives_padding key file)
    (cond (eqb (crc32_of (text_under key file)) crc) (Ok (length (text_under key file))) (Err (by 16)))
    (Err (by 21))

-- the refusal where neither key is right
abbrev pub neither : Refusal → Refusal → Refusal
neither one two = cond (eqb (number_of one) 21) two one

-- opening a file whose form is right
unfoldable pub opened_by : List ℕ → ℕ → ℕ → ℕ → Opened
opened_by file one two crc =
    demand (gives_padding one file || gives_padding two file) (refused (by 21))
    (demand (is_right_key crc one file || is_right_key crc two file) (refused (by 16))
    (cond (is_right_key crc one file) (opened 1 (text_under one file)) (opened 2 (text_under two file))))
