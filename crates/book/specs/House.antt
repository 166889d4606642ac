-- What the book promises of the house's form of enter and withdraw: it is the tenant's call, and it tells how many records that moved.
-- The house's answers are not among those of `Mixed`: they go by the records of all tenants.
use Rattle.std.specs.Prelude.{◌≡◌, List, [], ◌∷◌, ◌++◌, ℕ, length, Result, Ok}
use Rattle.forms.specs.Refusals.{by, refused, refusal_number}
use Rattle.forms.specs.declared.refusals.Refusal.{Refusal}
use Rattle.tenants.specs.declared.Held.{Held}
use Rattle.tenants.specs.Calls.{enter, withdraw, number}
use Rattle.tenants.specs.Together.{BookRecord, full_name, full, in_book}
use Rattle.tenants.specs.House.{later_in}
use Rattle.layout.specs.Layout.{book_of}
use Rattle.changing.specs.Changing.{entry, withdrawal}
use Rattle.changing.specs.House.{moved_records, house_answer}
use Rattle.asking.specs.Asking.{edition_in}
use Rattle.book.specs.OnBook.{answer_in, book_after}

-- what the house is answered when it enters a cell, as the contract says
abbrev pub house_enter : List ℕ → ℕ → Held → Result ℕ Refusal
house_enter s t cell = house_answer t s (entry s t cell)

-- and when it withdraws one
abbrev pub house_withdraw : List ℕ → ℕ → ℕ → Result ℕ Refusal
house_withdraw s t name = house_answer t s (withdrawal s t name)

-- the number is the tenant's answer; that the bytes are the tenant's too is the contracts' word, which have one definition for both, `bytes_after`
abbrev pub AsTenants : Type 0
AsTenants =
    (s : List ℕ) (t : ℕ)
    → ((cell : Held) → number (refusal_number (house_enter s t cell)) ≡ answer_in t (enter cell) s)
    × ((name : ℕ) → number (refusal_number (house_withdraw s t name)) ≡ answer_in t (withdraw name) s)

-- a refusal moves none
abbrev pub RefusedMovesNone : Type 0
RefusedMovesNone =
    (s : List ℕ) (t : ℕ)
    → ((cell : Held) → (refusal_number (house_enter s t cell) ≡ 0 → ⊥) → moved_records (house_enter s t cell) ≡ 0)
    × ((name : ℕ) → (refusal_number (house_withdraw s t name) ≡ 0 → ⊥) → moved_records (house_withdraw s t name) ≡ 0)

-- a name that is replaced, one for which the tenant is answered an edition, moves none
abbrev pub ReplacedMovesNone : Type 0
ReplacedMovesNone = (s : List ℕ) (t : ℕ) (cell : Held) (e : ℕ) → edition_in s t cell.name ≡ Ok e → moved_records (house_enter s t cell) ≡ 0

-- two lists of records that differ at one place, where the old one has what is taken and the new one what is put; before and after it they are the
-- same, and so many records stand after it
pub record Moves (old new taken put : List BookRecord) (moved : ℕ) : Type 0 where
  pub before : List BookRecord
  pub after : List BookRecord
  pub old_is : old ≡ before ++ (taken ++ after)
  pub new_is : new ≡ before ++ (put ++ after)
  pub moved_are : length after ≡ moved

-- a new name is entered: the records after it moved, and no others, and so many are told; as many are later in order, by the bytes of the new book
abbrev pub EnterMoves : Type 0
EnterMoves =
    (s : List ℕ) (t : ℕ) (cell : Held) → refusal_number (house_enter s t cell) ≡ 0 → edition_in s t cell.name ≡ refused (by 104)
    → Moves (book_of s).records (book_of (book_after t (enter cell) s)).records [] (in_book t cell ∷ []) (moved_records (house_enter s t cell))
    × (moved_records (house_enter s t cell) ≡ later_in (book_of (book_after t (enter cell) s)) t cell.name)

-- a name is withdrawn, likewise
abbrev pub WithdrawMoves : Type 0
WithdrawMoves =
    (s : List ℕ) (t name : ℕ) → refusal_number (house_withdraw s t name) ≡ 0
    → ((it : BookRecord) × (full it ≡ full_name t name)
    × Moves (book_of s).records (book_of (book_after t (withdraw name) s)).records (it ∷ []) [] (moved_records (house_withdraw s t name)))
    × (moved_records (house_withdraw s t name) ≡ later_in (book_of (book_after t (withdraw name) s)) t name)
