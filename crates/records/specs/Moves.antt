-- Bytes of a book moved by any size, up and down; a record written, put in or taken out. They say it of any bytes; of an undamaged book they
-- say what entering and withdrawing leave (`Replaces`, `Inserts`, `Removes`), and how many records are later (`LaterEntered`, `LaterWithdrawn`).
use Rattle.std.specs.Prelude.{◌≡◌, true, cond, ◌&&◌, List, ◌++◌, ℕ, suc, ◌+◌, ◌-◌, ◌<◌, leb, ltb, length, take, drop}
use Rattle.octets.specs.Numbers.{bytes_of}
use Rattle.text.specs.Texts.{placed}
use Rattle.tenants.specs.declared.Held.{Held}
use Rattle.tenants.specs.Rules.{enters, withdraws}
use Rattle.tenants.specs.Together.{BookRecord, names, in_book, changed}
use Rattle.tenants.specs.House.{later_in}
use Rattle.layout.specs.Layout.{record_size, zeros, record_bytes, used_length, book_bytes, record_place, record_count, book_of, is_book}
use Rattle.records.specs.declared.finding.Found.TheVariants.{At, Absent}
use Rattle.records.specs.Finding.{searched_under}

-- p with its first n bytes moved up by k: a gap of k bytes opens before them
abbrev pub moved_up : ℕ → ℕ → List ℕ → List ℕ
moved_up k n p = take k p ++ (take n p ++ drop (n + k) p)

-- p without its first k bytes: the n after them are moved down, and k zeros follow
abbrev pub first_removed : ℕ → ℕ → List ℕ → List ℕ
first_removed k n p = take n (drop k p) ++ (zeros k ++ drop (n + k) p)

-- s with the bytes from a place to the used length moved up by k
abbrev pub gap_at : ℕ → ℕ → ℕ → List ℕ → List ℕ
gap_at k at used s = take at s ++ moved_up k (used - at) (drop at s)

-- s without the k bytes at a place: those after them, to the used length, are moved down, and k zeros follow
abbrev pub gap_closed : ℕ → ℕ → ℕ → List ℕ → List ℕ
gap_closed k at used s = take at s ++ first_removed k (used - k - at) (drop at s)

-- s with this used length
abbrev pub used_put : ℕ → List ℕ → List ℕ
used_put used s = placed 1 (bytes_of 4 used) s

-- s with r as record i
abbrev pub record_put : ℕ → BookRecord → List ℕ → List ℕ
record_put i r s = placed (record_place i) (record_bytes r) s

-- s with r put in as record i of n
abbrev pub inserted_among : ℕ → ℕ → BookRecord → List ℕ → List ℕ
inserted_among n i r s = used_put (used_length (suc n)) (record_put i r (gap_at record_size (record_place i) (used_length n) s))

-- s with record i of n taken out
abbrev pub removed_among : ℕ → ℕ → List ℕ → List ℕ
removed_among n i s = used_put (used_length (n - 1)) (gap_closed record_size (record_place i) (used_length n) s)

-- s with r put in as record i; s as it was where fewer records stand before it, or there is no room for one more
unfoldable pub record_inserted : ℕ → BookRecord → List ℕ → List ℕ
record_inserted i r s =
    cond (leb i (record_count s) && leb (used_length (suc (record_count s))) (length s)) (inserted_among (record_count s) i r s) s

-- s with record i taken out; s as it was where there is none, or the records do not lie within it
unfoldable pub record_removed : ℕ → List ℕ → List ℕ
record_removed i s = cond (ltb i (record_count s) && leb (used_length (record_count s)) (length s)) (removed_among (record_count s) i s) s

-- of an undamaged book: to write a cell's record where the search found its name is to enter it
abbrev pub Replaces : Type 0
Replaces =
    (s : List ℕ) (t : ℕ) (cell : Held) (i : ℕ) → is_book s ≡ true → cell.name < names → searched_under s t cell.name ≡ At i
    → record_put i (in_book t cell) s ≡ book_bytes (changed t (enters cell) (book_of s))

-- and so it is to put it in where the search found none, with room for one more
abbrev pub Inserts : Type 0
Inserts =
    (s : List ℕ) (t : ℕ) (cell : Held) (i : ℕ) → is_book s ≡ true → cell.name < names → record_count s < 512
    → searched_under s t cell.name ≡ Absent i
    → record_inserted i (in_book t cell) s ≡ book_bytes (changed t (enters cell) (book_of s))

-- to take the record out that the search found is to withdraw its cell
abbrev pub Removes : Type 0
Removes =
    (s : List ℕ) (t name i : ℕ) → is_book s ≡ true → name < names → searched_under s t name ≡ At i
    → record_removed i s ≡ book_bytes (changed t (withdraws name) (book_of s))

-- of the records then, those that are later in order than an entered cell of a new name are as many as stand after it
abbrev pub LaterEntered : Type 0
LaterEntered =
    (s : List ℕ) (t : ℕ) (cell : Held) (i : ℕ) → is_book s ≡ true → cell.name < names → searched_under s t cell.name ≡ Absent i
    → suc i + later_in (changed t (enters cell) (book_of s)) t cell.name ≡ length (changed t (enters cell) (book_of s)).records

-- and than a withdrawn one, as many as stood after it
abbrev pub LaterWithdrawn : Type 0
LaterWithdrawn =
    (s : List ℕ) (t name i : ℕ) → is_book s ≡ true → name < names → searched_under s t name ≡ At i
    → suc i + later_in (changed t (withdraws name) (book_of s)) t name ≡ record_count s
