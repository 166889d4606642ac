-- What the layout promises: a good book's bytes are an undamaged book, and say that book.
use Rattle.std.specs.Prelude.{◌≡◌, true, false, List, ℕ, length}
use Rattle.tenants.specs.Together.{Book, is_good}
use Rattle.layout.specs.Layout.{one, is_book_by, book_size, book_bytes, book_of, is_book}

-- what is written of a good book is undamaged, and reads back
abbrev pub GoodReadsBack : Type 0
GoodReadsBack = (book : Book) → is_good book ≡ true → (is_book (book_bytes book) ≡ true) × (book_of (book_bytes book) ≡ book)

-- and each undamaged book is what is written of the good book that it says
abbrev pub UndamagedSays : Type 0
UndamagedSays = (s : List ℕ) → is_book s ≡ true → (is_good (book_of s) ≡ true) × ((book_bytes (book_of s) ≡ s) × (length s ≡ book_size))

-- no undamaged version 1 book is one of version 2
abbrev pub VersionsApart : Type 0
VersionsApart = (s : List ℕ) → is_book_by one s ≡ true → is_book s ≡ false
