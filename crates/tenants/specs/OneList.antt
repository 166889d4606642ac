-- What entering and withdrawing promise of one list: what is held under a name afterwards.
use Rattle.std.specs.Prelude.{◌≡◌, true, List, ℕ}
use Rattle.std.proofs.Math.Option.{none, some}
use Rattle.tenants.specs.declared.Held.{Held}
use Rattle.tenants.specs.Cells.{entered, withdrawn, cell_of}
use Rattle.tenants.specs.Together.{Book, cells_of, is_good}

-- the entered cell is held under its name, whatever was held there before
abbrev pub HeldAsEntered : Type 0
HeldAsEntered = (cell : Held) (cells : List Held) → cell_of cell.name (entered cell cells) ≡ some cell

-- and every other name holds what it held
abbrev pub OthersAfterEntering : Type 0
OthersAfterEntering =
    (cell : Held) (cells : List Held) (name : ℕ) → (name ≡ cell.name → ⊥) → cell_of name (entered cell cells) ≡ cell_of name cells

-- nothing is held under a withdrawn name of a good book's tenant
abbrev pub NotHeldAfterwards : Type 0
NotHeldAfterwards = (book : Book) (t name : ℕ) → is_good book ≡ true → cell_of name (withdrawn name (cells_of t book.records)) ≡ none

-- and every other name holds what it held
abbrev pub OthersAfterWithdrawing : Type 0
OthersAfterWithdrawing = (cells : List Held) (gone name : ℕ) → (name ≡ gone → ⊥) → cell_of name (withdrawn gone cells) ≡ cell_of name cells
