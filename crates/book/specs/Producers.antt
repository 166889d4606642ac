-- What the book promises of the question for a producer: it is answered by every record, and as the editions of the producer's cells are.
use Rattle.std.specs.Prelude.{◌≡◌, ◌↔◌, Bool, true, false, ◌&&◌, ◌||◌, List, [], ◌∷◌, ℕ, eqb, Ok}
use Rattle.forms.specs.Identifiers.{is_producer}
use Rattle.tenants.specs.Cells.{producer_of}
use Rattle.tenants.specs.Rules.{is_tenant}
use Rattle.tenants.specs.Together.{BookRecord, tenant_of, name_of}
use Rattle.layout.specs.Layout.{book_of, is_book, list_in}
use Rattle.asking.specs.Asking.{edition_in, holding_in}

-- a walk through every record: one of them is under tenant t's number, and of this producer
unfoldable pub any_record : ℕ → ℕ → List BookRecord → Bool
any_record t producer [] = false
any_record t producer (r ∷ records) = (eqb (tenant_of r) t && eqb (producer_of (name_of r)) producer) || any_record t producer records

-- the answer is that of a walk through every record; a branch's goes by its principal's
abbrev pub AsEveryRecord : Type 0
AsEveryRecord =
    (s : List ℕ) (t producer : ℕ) → is_book s ≡ true → is_tenant t ≡ true → is_producer producer ≡ true
    → holding_in s t producer ≡ Ok (any_record (list_in s t) producer (book_of s).records)

-- on any book it is yes exactly where asking gives an edition for some name that begins with the two characters
abbrev pub AsEditions : Type 0
AsEditions =
    (s : List ℕ) (t producer : ℕ)
    → (holding_in s t producer ≡ Ok true) ↔ ((name : ℕ) × (e : ℕ) × (producer_of name ≡ producer) × (edition_in s t name ≡ Ok e))
