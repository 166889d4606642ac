-- What mending promises of the room that it takes: so much is enough, and the program has it.
use Rattle.std.specs.Prelude.{◌≡◌, true, List, ℕ, ◌+◌, ◌*◌, ◌/◌, ◌≤◌, length}
use Rattle.mending.specs.Mending.{mended_of, is_mended}
use Rattle.mending.specs.Program.{printed}

-- a mended file is hardly longer than the old one: a kept line has 72 bytes at least, with its LF, and gains one
abbrev pub FileRoom : Type 0
FileRoom = (file : List ℕ) → is_mended file ≡ true → length (mended_of file).file ≤ length file + length file / 72 + 9

-- the list of a file of 100,000 bytes or fewer has at most eleven bytes for each of the file's: an empty line is counted in five digits and left out
abbrev pub ListRoom : Type 0
ListRoom = (file : List ℕ) → is_mended file ≡ true → length file ≤ 100000 → length (mended_of file).list ≤ 11 * length file

-- 80,000 bytes are room enough for what is printed of any input, and 721,000 for its list
abbrev pub RoomEnough : Type 0
RoomEnough = (input : List ℕ) → (length (printed input).file ≤ 80000) × (length (printed input).list ≤ 721000)
