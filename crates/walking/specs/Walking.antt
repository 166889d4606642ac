-- The walk through a book's records for a producer, and where it stops. It says it of any bytes; of an undamaged book it says whether a tenant
-- holds any cell of the producer (`WalksOwn`).
use Rattle.std.specs.Prelude.{◌≡◌, Bool, true, false, cond, ◌&&◌, List, ℕ, zero, suc, ◌-◌, leb, ltb, eqb, length, Some}
use Rattle.tenants.specs.Cells.{producer_of, holds_any}
use Rattle.tenants.specs.Together.{name_of}
use Rattle.layout.specs.Layout.{used_length, record_at, own_in}
use Rattle.judging.specs.Starts.{judged}
use Rattle.judging.specs.declared.Records.{Records}

-- the producer of record i
abbrev pub producer_at : List ℕ → ℕ → ℕ
producer_at s i = producer_of (name_of (record_at s i))

-- the walk through n records from i on: it stops at the first that is later in order than any of the producer, or at the first of these
unfoldable pub walked : List ℕ → ℕ → ℕ → ℕ → Bool
walked s producer i zero = false
walked s producer i (suc n) =
    cond (ltb producer (producer_at s i)) false (cond (eqb (producer_at s i) producer) true (walked s producer (suc i) n))

-- whether the walk from first up to past finds one; none where these records do not lie within s
unfoldable pub any_among : List ℕ → ℕ → ℕ → ℕ → Bool
any_among s first past producer = leb (used_length past) (length s) && walked s producer first (past - first)

-- where judging the book for a tenant says that its records stand, the walk finds one exactly where among all its cells there is one
abbrev pub WalksOwn : Type 0
WalksOwn =
    (s : List ℕ) (t producer : ℕ) (r : Records) → judged s t ≡ Some r
    → any_among s r.first r.past producer ≡ holds_any producer (own_in s t).cells
