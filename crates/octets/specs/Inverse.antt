-- What bytes promises: a number and its bytes, or its padded block, undo one another, at every width.
use Rattle.std.specs.Prelude.{◌≡◌, List, ℕ, ◌^◌, ◌≤◌, ◌<◌, length, Some}
use Rattle.octets.specs.Numbers.{Below, bytes_of, bytes_number}
use Rattle.octets.specs.Padding.{pad_of, unpad_of}

-- the number of the big-endian bytes of a number is the number
abbrev pub NumberOfBytes : Type 0
NumberOfBytes = (n x : ℕ) → x < 256 ^ n → bytes_number (bytes_of n x) ≡ x

-- the bytes of the number of some bytes are these bytes
abbrev pub BytesOfNumber : Type 0
BytesOfNumber = (s : List ℕ) → Below 256 s → bytes_of (length s) (bytes_number s) ≡ s

-- what was padded is found again
abbrev pub UnpadAfterPad : Type 0
UnpadAfterPad = (n x : ℕ) → n ≤ 8 → x < 256 ^ n → unpad_of n (pad_of n x) ≡ Some x

-- what is found under good padding gives the block again
abbrev pub PadAfterUnpad : Type 0
PadAfterUnpad = (n block x : ℕ) → n ≤ 8 → block < 256 ^ 8 → unpad_of n block ≡ Some x → pad_of n x ≡ block
