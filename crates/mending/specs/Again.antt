-- What mending promises of a second time: what was mended stays as it is, and nothing is listed exactly where nothing was changed.
use Rattle.std.specs.Prelude.{◌≡◌, true, List, [], ℕ}
use Rattle.mending.specs.Mending.{mended_of, is_mended}

-- mending a mended file gives that file, with a good header, and lists nothing
abbrev pub MendedStays : Type 0
MendedStays =
    (file : List ℕ) → is_mended file ≡ true
    → (is_mended (mended_of file).file ≡ true) × (mended_of (mended_of file).file ≡ record { file = (mended_of file).file; list = [] })

-- the list is empty exactly where the mended file is the old one
abbrev pub ListedExactly : Type 0
ListedExactly =
    (file : List ℕ) → is_mended file ≡ true
    → ((mended_of file).list ≡ [] → (mended_of file).file ≡ file) × ((mended_of file).file ≡ file → (mended_of file).list ≡ [])
