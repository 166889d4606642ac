-- What the house is told of a change beside its number: how much moved. That goes by the records of all tenants, so no tenant's answer has it.
use Rattle.std.specs.Prelude.{Bool, cond, ◌&&◌, ◌||◌, ℕ, ltb, eqb}
use Rattle.octets.specs.Every.{count_of}
use Rattle.tenants.specs.Cells.{cell_of}
use Rattle.tenants.specs.Rules.{Change, enters, withdraws, sets, nothing, refuses, is_some}
use Rattle.tenants.specs.Together.{Book, BookRecord, tenant_of, name_of, own_of, changed}

-- a record is later in order than tenant t's cell of a name: it is a later tenant's, or t's own under a later name
unfoldable pub is_later : ℕ → ℕ → BookRecord → Bool
is_later t name r = ltb t (tenant_of r) || (eqb (tenant_of r) t && ltb name (name_of r))

-- how many records of a book are later than it
abbrev pub later_in : Book → ℕ → ℕ → ℕ
later_in book t name = count_of (is_later t name) book.records

-- how many records a change by tenant t moves: those of the new book that are later than the entered or withdrawn cell. A held name that is replaced
-- moves none, nor do new warning days or a refusal
abbrev pub moved_by : ℕ → Change → Book → ℕ
moved_by t (enters cell) book =
    cond (is_some (cell_of cell.name (own_of t book).cells)) 0 (later_in (changed t (enters cell) book) t cell.name)
moved_by t (withdraws name) book = later_in (changed t (withdraws name) book) t name
moved_by t (sets days) book = 0
moved_by t nothing book = 0
moved_by t (refuses r) book = 0
