-- The words of a cell key. Assumes nothing.
use mathlib.Core.Path.{◌≡◌, ap, ◌∙◌}
use mathlib.Core.List.{List}
use Prim.Native.Nat.{ℕ}
use Rattle.octets.specs.Numbers.{digits, bytes_of}
use Rattle.blowfish.specs.Schedule.{is_key, scheduled}
use Rattle.cell_file.specs.Enciphering.{cell_words}

-- the five bytes of a number are a key of the cipher
pub five_bytes : (key : ℕ) (bytes before after : List ℕ) → bytes ≡ bytes_of 5 key → after ≡ scheduled bytes before → after ≡ cell_words key
unfolding scheduled is_key digits cell_words
five_bytes key bytes before after e is = is ∙ ap (λ (b : List ℕ). scheduled b before) e
