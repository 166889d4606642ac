-- Carrying over: a version 1 book becomes a version 2 book, with the same settings and cells and no last expiry.
use Rattle.std.specs.Prelude.{◌≡◌, true, List, ℕ, eqb}
use Rattle.forms.specs.Order.{demand}
use Rattle.forms.specs.Output.{Output, text, refusal}
use Rattle.forms.specs.Refusals.{by}
use Rattle.tenants.specs.Version1.{no_lasts}
use Rattle.layout.specs.Layout.{one, book_of_by, is_book_by, book_size, book_bytes, book_of, is_book}

-- the version 2 book of what a version 1 book says
abbrev pub carried : List ℕ → List ℕ
carried s = book_bytes (book_of_by one s)

-- carrying over into a second buffer of so many bytes: 101 for a damaged version 1 book, then 108 for another length than a book's
unfoldable pub carried_over : List ℕ → ℕ → Output
carried_over s room =
    demand (is_book_by one s) (refusal (by 101))
    (demand (eqb room book_size) (refusal (by 108))
    (text (carried s)))

-- an undamaged version 1 book becomes an undamaged book with the same settings and the same cells, and none of these has a last expiry
abbrev pub CarriesOver : Type 0
CarriesOver =
    (s : List ℕ) → is_book_by one s ≡ true
    → (is_book (carried s) ≡ true) × ((book_of (carried s) ≡ book_of_by one s) × (no_lasts (book_of (carried s)).records ≡ true))
