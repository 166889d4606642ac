-- What the book promises of quotas: a tenant's own decides, and nothing else; a branch has none, and enters and withdraws nothing.
use Rattle.std.specs.Prelude.{◌≡◌, true, List, ℕ, ◌<◌, ◌≤◌, length}
use Rattle.std.proofs.Math.Option.{none, some}
use Rattle.forms.specs.Identifiers.{is_cell_name}
use Rattle.forms.specs.Refusals.{by}
use Rattle.tenants.specs.declared.Held.{Held}
use Rattle.tenants.specs.Cells.{cell_of}
use Rattle.tenants.specs.Rules.{enters, withdraws, refuses, is_tenant, is_held, names_none}
use Rattle.layout.specs.Layout.{is_book, own_in}
use Rattle.changing.specs.Changing.{entry, withdrawal, bytes_after}
use Rattle.book.specs.Mixed.{IsBranch}

-- to a tenant that is no branch a new name is refused, by 105, exactly when its own quota is used, however full the book is
abbrev pub QuotaDecides : Type 0
QuotaDecides =
    (s : List ℕ) (t : ℕ) (cell : Held) → is_book s ≡ true → is_tenant t ≡ true → is_held cell ≡ true → names_none (own_in s t).setting ≡ true
    → cell_of cell.name (own_in s t).cells ≡ none
    → ((own_in s t).setting.quota ≤ length (own_in s t).cells → entry s t cell ≡ refuses (by 105))
    × (length (own_in s t).cells < (own_in s t).setting.quota → entry s t cell ≡ enters cell)

-- and a held name is replaced whatever the quota
abbrev pub HeldReplaced : Type 0
HeldReplaced =
    (s : List ℕ) (t : ℕ) (cell old : Held) → is_book s ≡ true → is_tenant t ≡ true → is_held cell ≡ true → names_none (own_in s t).setting ≡ true
    → cell_of cell.name (own_in s t).cells ≡ some old → entry s t cell ≡ enters cell

-- withdrawn room counts again at once
abbrev pub RoomAgain : Type 0
RoomAgain =
    (s : List ℕ) (t name : ℕ) (cell : Held) → is_book s ≡ true → withdrawal s t name ≡ withdraws name → is_held cell ≡ true
    → entry (bytes_after t (withdraws name) s) t cell ≡ enters cell

-- a branch is refused by 111, whatever its principal holds
abbrev pub BranchRefused : Type 0
BranchRefused =
    (s : List ℕ) (t : ℕ) → is_book s ≡ true → IsBranch s t
    → ((cell : Held) → is_held cell ≡ true → entry s t cell ≡ refuses (by 111))
    × ((name : ℕ) → is_cell_name name ≡ true → withdrawal s t name ≡ refuses (by 111))
