-- The bytes of a version 1 book in their old form, and with room for last expiries: for contracts inside the crate alone. What these say is judged as a
-- version 2 book.
use Rattle.std.specs.Prelude.{List, [], ◌∷◌, ◌++◌, ℕ, ◌-◌}
use Rattle.octets.specs.Numbers.{bytes_of}
use Rattle.octets.specs.Places.{number_at}
use Rattle.text.specs.Texts.{part}
use Rattle.layout.specs.Layout.{one, record_size_by, record_place_by, record_count_by, settings_place, book_size, used_length, zeros, all_bytes, each_from}

-- the bytes of record i, as one number
abbrev pub old_record : List ℕ → ℕ → ℕ
old_record s i = number_at (record_size_by one) s (record_place_by one i)

-- these, and four zeros
unfoldable pub wider_bytes : ℕ → List ℕ
wider_bytes x = bytes_of (record_size_by one) x ++ zeros 4

-- the records so
abbrev pub wider_records : List ℕ → List ℕ
wider_records s = all_bytes wider_bytes (each_from (old_record s) 0 (record_count_by one s))

-- the book so: version 2, its used length, the settings, the records, and zeros past the used length
abbrev pub wider : List ℕ → List ℕ
wider s =
    (((2 ∷ []) ++ bytes_of 4 (used_length (record_count_by one s))) ++ part 96 s settings_place)
    ++ (wider_records s ++ zeros (book_size - used_length (record_count_by one s)))
