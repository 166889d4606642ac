-- What the book promises of one call: undamaged stays undamaged, others are not touched but branches by their principal, a refusal changes nothing,
-- what is issued reads back.
use Rattle.std.specs.Prelude.{◌≡◌, true, List, ◌++◌, ℕ, ◌≤◌, Ok}
use Rattle.std.proofs.Math.Option.{some}
use Rattle.dates.specs.Calendar.{is_date}
use Rattle.forms.specs.Output.{text}
use Rattle.user_permit.specs.Register.{is_register}
use Rattle.user_permit.specs.UserPermit.{read_permit}
use Rattle.user_permit.specs.declared.Ship.{Ship}
use Rattle.cell_permit.specs.CellPermit.{ship_words, line_of, line_end}
use Rattle.cell_permit.specs.ReadBack.{record_for}
use Rattle.tenants.specs.declared.Held.{Held}
use Rattle.tenants.specs.Cells.{cell_of}
use Rattle.tenants.specs.Rules.{is_tenant, line_cell, in_time}
use Rattle.tenants.specs.Calls.{Call, answer_number}
use Rattle.layout.specs.Layout.{book_of, is_book, list_in, own_in}
use Rattle.asking.specs.Asking.{issued_from, checked_by}
use Rattle.book.specs.OnBook.{answer_in, book_after}
use Rattle.book.specs.Mixed.{IsBranch}

-- undamaged stays undamaged
abbrev pub StaysUndamaged : Type 0
StaysUndamaged = (s : List ℕ) (t : ℕ) (call : Call) → is_book s ≡ true → is_book (book_after t call s) ≡ true

-- a call by one tenant leaves the cells and setting of every other that is not its branch as they were
abbrev pub OthersUntouched : Type 0
OthersUntouched =
    (s : List ℕ) (t u : ℕ) (call : Call) → is_book s ≡ true → (u ≡ t → ⊥) → (list_in s u ≡ t → ⊥) → own_in (book_after t call s) u ≡ own_in s u

-- of its branch it leaves the setting, and the cells are then those that it has itself
abbrev pub BranchesSee : Type 0
BranchesSee =
    (s : List ℕ) (t u : ℕ) (call : Call) → is_book s ≡ true → (u ≡ t → ⊥) → list_in s u ≡ t
    → ((own_in (book_after t call s) u).setting ≡ (own_in s u).setting)
    × ((own_in (book_after t call s) u).cells ≡ (own_in (book_after t call s) t).cells)

-- a branch's call changes nobody's cells
abbrev pub BranchLeavesCells : Type 0
BranchLeavesCells =
    (s : List ℕ) (t : ℕ) (call : Call) → is_book s ≡ true → IsBranch s t
    → ((book_of (book_after t call s)).records ≡ (book_of s).records) × ((u : ℕ) → (own_in (book_after t call s) u).cells ≡ (own_in s u).cells)

-- a refusal leaves the book as it was, and so does every other answer whose number is not 0; of a damaged book too
abbrev pub RefusalLeaves : Type 0
RefusalLeaves = (s : List ℕ) (t : ℕ) (call : Call) → (answer_number (answer_in t call s) ≡ 0 → ⊥) → book_after t call s ≡ s

-- what is issued for a ship, where it is in time, is the line of the cell that is held under the name asked for, and the tenant's own check of it
-- answers that cell with the notice of its own days
abbrev pub IssuedReadsBack : Type 0
IssuedReadsBack =
    (s register permit : List ℕ) (t name expiry level room today : ℕ) (ship : Ship) (cell : Held)
    → is_book s ≡ true → is_tenant t ≡ true → is_register register ≡ true → read_permit register permit ≡ Ok ship
    → cell_of name (own_in s t).cells ≡ some cell → is_date expiry ≡ true → in_time cell expiry ≡ true → level ≤ 1 → 76 ≤ room → is_date today ≡ true
    → (cell.name ≡ name)
    × ((issued_from s register t name expiry level permit room
    ≡ text (line_of (ship_words ship.hw_id) (line_cell (own_in s t).setting cell expiry level) ++ line_end))
    × (checked_by s t ship.hw_id today (line_of (ship_words ship.hw_id) (line_cell (own_in s t).setting cell expiry level))
    ≡ record_for today (own_in s t).setting.days (line_cell (own_in s t).setting cell expiry level)))
