-- The search's words: the name at each record, the place that halving ends at, and what is found there. They say it of any bytes; of an
-- undamaged book they say what a tenant holds (`FindsHeld`, `FindsNone`, `CountsHeld`).
use Rattle.std.specs.Prelude.{◌≡◌, true, cond, ◌&&◌, List, ℕ, zero, suc, ◌+◌, ◌-◌, ◌/◌, ◌<◌, leb, ltb, eqb, length, Some}
use Rattle.std.proofs.Math.Option.{none, some}
use Rattle.octets.specs.Places.{number_at}
use Rattle.tenants.specs.Cells.{cell_of}
use Rattle.tenants.specs.Together.{names, cell_in}
use Rattle.layout.specs.Layout.{used_length, record_place, record_at, is_book, list_in, own_in}
use Rattle.judging.specs.Starts.{first_in, past_in, judged}
use Rattle.judging.specs.declared.Records.{Records}
use Rattle.records.specs.declared.finding.Found.{Found}
use Rattle.records.specs.declared.finding.Found.TheVariants.{At, Absent}

-- the name at record i: the eight bytes after the tenant's
abbrev pub name_at : List ℕ → ℕ → ℕ
name_at s i = number_at 8 s (record_place i + 1)

-- what is left, from low to high, is halved at most so many times: up where the name at the middle is lower, and else down
unfoldable pub halved : (ℕ → ℕ) → ℕ → ℕ → ℕ → ℕ → ℕ
halved at name zero low high = low
halved at name (suc times) low high =
    cond (ltb low high)
    (cond (ltb (at ((low + high) / 2)) name)
    (halved at name times ((low + high) / 2 + 1) high)
    (halved at name times low ((low + high) / 2)))
    low

-- where that ends, with the records from first up to past left at first
unfoldable pub place_in : List ℕ → ℕ → ℕ → ℕ → ℕ
place_in s first past name = halved (name_at s) name (past - first) first past

-- what is found at a place
abbrev pub found_at : List ℕ → ℕ → ℕ → ℕ → Found
found_at s past name i = cond (ltb i past && eqb (name_at s i) name) (At i) (Absent i)

-- what the search for a name finds among the records from first up to past; none where these do not lie within s
unfoldable pub searched : List ℕ → ℕ → ℕ → ℕ → Found
searched s first past name = cond (leb (used_length past) (length s)) (found_at s past name (place_in s first past name)) (Absent first)

-- among those under tenant t's number
abbrev pub searched_under : List ℕ → ℕ → ℕ → Found
searched_under s t name = searched s (first_in s t) (past_in s t) name

-- and among those that tenant t reads
abbrev pub searched_for : List ℕ → ℕ → ℕ → Found
searched_for s t name = searched_under s (list_in s t) name

-- which is where judging the book for the tenant says that they stand
abbrev pub SearchesOwn : Type 0
SearchesOwn = (s : List ℕ) (t name : ℕ) (r : Records) → judged s t ≡ Some r → searched s r.first r.past name ≡ searched_for s t name

-- of an undamaged book: the record that is found is the cell of that name among the tenant's own
abbrev pub FindsHeld : Type 0
FindsHeld =
    (s : List ℕ) (t name i : ℕ) → is_book s ≡ true → name < names → searched_for s t name ≡ At i
    → cell_of name (own_in s t).cells ≡ some (cell_in (record_at s i))

-- where none is found the tenant holds none
abbrev pub FindsNone : Type 0
FindsNone =
    (s : List ℕ) (t name i : ℕ) → is_book s ≡ true → name < names → searched_for s t name ≡ Absent i
    → cell_of name (own_in s t).cells ≡ none

-- and from where the records begin that it reads to where they end they are as many as its cells; that is so of any bytes
abbrev pub CountsHeld : Type 0
CountsHeld = (s : List ℕ) (t : ℕ) → past_in s (list_in s t) ≡ first_in s (list_in s t) + length (own_in s t).cells
