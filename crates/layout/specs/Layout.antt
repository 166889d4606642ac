-- The book in bytes: how it is written, how it is read, and which bytes are an undamaged book. It has two versions, and one layout for both: version 2
-- is what the calls read and write, and version 1, whose records have no last expiry, is only read, to be carried over.
use Rattle.std.specs.Prelude.{Bool, true, ◌&&◌, List, [], ◌∷◌, ◌++◌, ℕ, zero, suc, ◌+◌, ◌-◌, ◌*◌, ◌/◌, eqb, length, replicate}
use Rattle.octets.specs.Numbers.{bytes_of}
use Rattle.octets.specs.Places.{number_at}
use Rattle.text.specs.Texts.{same_text}
use Rattle.tenants.specs.declared.Setting.{Setting}
use Rattle.tenants.specs.Rules.{Own}
use Rattle.tenants.specs.Together.{Book, BookRecord, full, list_of, own_of, is_good}

-- the versions of the book
pub data Version : Type 0 where
  one : Version
  two : Version

-- the first byte
abbrev pub version_byte : Version → ℕ
version_byte one = 1
version_byte two = 2

-- how many bytes of a record are its last expiry
abbrev pub last_size : Version → ℕ
last_size one = 0
last_size two = 4

-- how many bytes a setting has
abbrev pub setting_size : ℕ
setting_size = 6

-- how many a record has: 24, or 28
abbrev pub record_size_by : Version → ℕ
record_size_by v = 24 + last_size v

-- where the sixteen settings begin
abbrev pub settings_place : ℕ
settings_place = 5

-- where the records begin
abbrev pub records_place : ℕ
records_place = 101

-- the used length with n records: 101 + 24n, or 101 + 28n
abbrev pub used_length_by : Version → ℕ → ℕ
used_length_by v n = records_place + record_size_by v * n

-- how many bytes the book has: room for 512 records, so 12,389, or 14,437
abbrev pub book_size_by : Version → ℕ
book_size_by v = used_length_by v 512

-- n zeros
abbrev pub zeros : ℕ → List ℕ
zeros n = replicate n 0

-- a setting: quota (2), warning days (1), Data Server ID (2), principal (1)
unfoldable pub setting_bytes : Setting → List ℕ
setting_bytes s = bytes_of 2 s.quota ++ (bytes_of 1 s.days ++ (bytes_of 2 s.server ++ bytes_of 1 s.principal))

-- a record: tenant (1) and cell name (8), which are the full name, edition (2), keys (5 + 5), three zeros, last expiry (none, or 4)
unfoldable pub record_bytes_by : Version → BookRecord → List ℕ
record_bytes_by v r =
    bytes_of 9 (full r) ++ (bytes_of 2 r.edition ++ (bytes_of 5 r.key1 ++ (bytes_of 5 r.key2 ++ (zeros 3 ++ bytes_of (last_size v) r.last))))

-- the bytes of all, one after the other
unfoldable pub all_bytes : {A : Type 0} → (A → List ℕ) → List A → List ℕ
all_bytes bytes [] = []
all_bytes bytes (x ∷ l) = bytes x ++ all_bytes bytes l

-- the book: the version, the used length (4), the settings, the records, and zeros past the used length
unfoldable pub book_bytes_by : Version → Book → List ℕ
book_bytes_by v book =
    version_byte v ∷ (bytes_of 4 (used_length_by v (length book.records))
    ++ (all_bytes setting_bytes book.settings
    ++ (all_bytes (record_bytes_by v) book.records
    ++ zeros (book_size_by v - used_length_by v (length book.records)))))

-- where the setting of tenant t begins
abbrev pub setting_place : ℕ → ℕ
setting_place t = settings_place + setting_size * t

-- where record i begins, counted from 0
abbrev pub record_place_by : Version → ℕ → ℕ
record_place_by v i = records_place + record_size_by v * i

-- the setting of tenant t
unfoldable pub setting_at : List ℕ → ℕ → Setting
setting_at s t = record {
  quota = number_at 2 s (setting_place t);
  days = number_at 1 s (setting_place t + 2);
  server = number_at 2 s (setting_place t + 3);
  principal = number_at 1 s (setting_place t + 5);
}

-- record i, under its full name; in version 1 its last expiry is that of no bytes, 0
unfoldable pub record_at_by : Version → List ℕ → ℕ → BookRecord
record_at_by v s i = record {
  name = number_at 9 s (record_place_by v i);
  edition = number_at 2 s (record_place_by v i + 9);
  key1 = number_at 5 s (record_place_by v i + 11);
  key2 = number_at 5 s (record_place_by v i + 16);
  last = number_at (last_size v) s (record_place_by v i + 24);
}

-- how many records the used length tells
unfoldable pub record_count_by : Version → List ℕ → ℕ
record_count_by v s = (number_at 4 s 1 - records_place) / record_size_by v

-- what is read at i, i + 1 and so on, n in all
unfoldable pub each_from : {A : Type 0} → (ℕ → A) → ℕ → ℕ → List A
each_from at i zero = []
each_from at i (suc n) = at i ∷ each_from at (suc i) n

-- the test passes at i, i + 1 and so on, n in all
unfoldable pub all_from : (ℕ → Bool) → ℕ → ℕ → Bool
all_from test i zero = true
all_from test i (suc n) = test i && all_from test (suc i) n

-- what the bytes say
unfoldable pub book_of_by : Version → List ℕ → Book
book_of_by v s = record { settings = each_from (setting_at s) 0 16; records = each_from (record_at_by v s) 0 (record_count_by v s) }

-- an undamaged book: as many bytes as it should have, which are exactly those of what they say, and that is good
unfoldable pub is_book_by : Version → List ℕ → Bool
is_book_by v s = eqb (length s) (book_size_by v) && same_text s (book_bytes_by v (book_of_by v s)) && is_good (book_of_by v s)

-- all these for version 2: how many bytes a record has
abbrev pub record_size : ℕ
record_size = record_size_by two

-- how many the book
abbrev pub book_size : ℕ
book_size = book_size_by two

-- the used length
abbrev pub used_length : ℕ → ℕ
used_length = used_length_by two

-- a record
abbrev pub record_bytes : BookRecord → List ℕ
record_bytes = record_bytes_by two

-- the book
abbrev pub book_bytes : Book → List ℕ
book_bytes = book_bytes_by two

-- where record i begins
abbrev pub record_place : ℕ → ℕ
record_place = record_place_by two

-- record i
abbrev pub record_at : List ℕ → ℕ → BookRecord
record_at = record_at_by two

-- how many records there are
abbrev pub record_count : List ℕ → ℕ
record_count = record_count_by two

-- what the bytes say
abbrev pub book_of : List ℕ → Book
book_of = book_of_by two

-- an undamaged book, of version 2
abbrev pub is_book : List ℕ → Bool
is_book = is_book_by two

-- the tenant whose list tenant t reads, by the bytes
abbrev pub list_in : List ℕ → ℕ → ℕ
list_in s t = list_of t (book_of s)

-- what is tenant t's own in the book
abbrev pub own_in : List ℕ → ℕ → Own
own_in s t = own_of t (book_of s)
