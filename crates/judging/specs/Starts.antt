-- What judging a book answers: whether it is undamaged, and where the records stand that a tenant reads.
use Rattle.std.specs.Prelude.{cond, Option, None, Some, List, [], ◌∷◌, ℕ, suc, ◌+◌, ltb}
use Rattle.tenants.specs.Together.{BookRecord, tenant_of}
use Rattle.layout.specs.Layout.{book_of, is_book, list_in}
use Rattle.judging.specs.declared.Records.{Records}

-- how many records the tenants below t have: those of t begin after them
unfoldable pub start_of : ℕ → List BookRecord → ℕ
start_of t [] = 0
start_of t (r ∷ records) = cond (ltb (tenant_of r) t) 1 0 + start_of t records

-- where the records under tenant t's number begin in a book
abbrev pub first_in : List ℕ → ℕ → ℕ
first_in s t = start_of t (book_of s).records

-- where they end, which is where the next tenant's begin
abbrev pub past_in : List ℕ → ℕ → ℕ
past_in s t = first_in s (suc t)

-- what judging the book finds for those under tenant t's number: where they stand, and nothing where the book is damaged
unfoldable pub judged_under : List ℕ → ℕ → Option Records
judged_under s t = cond (is_book s) (Some (record { first = first_in s t; past = past_in s t })) None

-- and for tenant t: where the list stands that it reads
abbrev pub judged : List ℕ → ℕ → Option Records
judged s t = judged_under s (list_in s t)
