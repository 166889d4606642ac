-- What the code looks up: for inner contracts alone.
use Rattle.std.specs.Prelude.{◌≡◌, List, ℕ, ◌+◌, ◌*◌, ◌^◌, ◌<◌, get_or}
use Rattle.crc32.specs.Crc32.{shifts}

-- what is left of the hex digit n at a place of a word, the low place being 0, when the word's 32 bits have gone out
abbrev pub digit_out : ℕ → ℕ → ℕ
digit_out place n = shifts 32 (n * 16 ^ place)

-- sixteen entries for each of a word's eight digits
pub record IsTable (t : List ℕ) : Type 0 where
  pub entry : (place n : ℕ) → place < 8 → n < 16 → get_or t (16 * place + n) 0 ≡ digit_out place n
