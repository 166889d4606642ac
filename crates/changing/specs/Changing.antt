-- The calls that change the book, on its bytes: a damaged book is 101, and else the rules decide, by what is the tenant's own.
use Rattle.std.specs.Prelude.{Bool, List, ℕ, Result, Ok}
use Rattle.forms.specs.Order.{demand}
use Rattle.forms.specs.Refusals.{by, refused}
use Rattle.forms.specs.declared.refusals.Refusal.{Refusal}
use Rattle.tenants.specs.declared.Held.{Held}
use Rattle.tenants.specs.Rules.{Change, enters, withdraws, sets, nothing, refuses, is_tenant, names_none, entering, withdrawing, setting_days}
use Rattle.tenants.specs.Together.{changed}
use Rattle.layout.specs.Layout.{book_bytes, book_of, is_book, list_in, own_in}
use Rattle.judging.specs.Starts.{first_in, past_in}
use Rattle.judging.specs.declared.Records.{Records}

-- where the records stand that tenant t reads
abbrev pub records_in : List ℕ → ℕ → Records
records_in s t = record { first = first_in s (list_in s t); past = past_in s (list_in s t) }

-- what enter and withdraw are refused with before the cells are asked for, 103 where what was given does not fit, and 111 for a branch; else where
-- the records stand that the tenant reads
unfoldable pub admitted : List ℕ → ℕ → Bool → Result Records Refusal
admitted s t fits =
    demand (is_book s) (refused (by 101))
    (demand (is_tenant t) (refused (by 102))
    (demand fits (refused (by 103))
    (demand (names_none (own_in s t).setting) (refused (by 111))
    (Ok (records_in s t)))))

-- enter a cell: what it does, or the refusal
unfoldable pub entry : List ℕ → ℕ → Held → Change
entry s t cell = demand (is_book s) (refuses (by 101)) (entering t cell (own_in s t))

-- withdraw a cell
unfoldable pub withdrawal : List ℕ → ℕ → ℕ → Change
withdrawal s t name = demand (is_book s) (refuses (by 101)) (withdrawing t name (own_in s t))

-- set warning days
unfoldable pub new_days : List ℕ → ℕ → ℕ → Change
new_days s t days = demand (is_book s) (refuses (by 101)) (setting_days t days (own_in s t))

-- the bytes after what one of these does; a refusal leaves them as they were
abbrev pub bytes_after : ℕ → Change → List ℕ → List ℕ
bytes_after t (enters cell) s = book_bytes (changed t (enters cell) (book_of s))
bytes_after t (withdraws name) s = book_bytes (changed t (withdraws name) (book_of s))
bytes_after t (sets days) s = book_bytes (changed t (sets days) (book_of s))
bytes_after t nothing s = s
bytes_after t (refuses r) s = s
