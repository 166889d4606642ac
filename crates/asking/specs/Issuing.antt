-- What asking and issuing come to by what the search for a cell finds: for contracts inside the crate alone. On an undamaged book it is what the rules
-- say of the tenant's own cells (`edition_of`, `line_for`).
use Rattle.std.proofs.Math.Option.{Option, none, some}
use Rattle.std.specs.Prelude.{List, ℕ, Result, Ok, Option as StdOption, Some, None}
use Rattle.forms.specs.Order.{demand}
use Rattle.forms.specs.Output.{Output, refusal}
use Rattle.forms.specs.Refusals.{by, refused}
use Rattle.forms.specs.declared.refusals.Refusal.{Refusal}
use Rattle.cell_permit.specs.CellPermit.{written_line}
use Rattle.tenants.specs.declared.Held.{Held}
use Rattle.tenants.specs.declared.Setting.{Setting}
use Rattle.tenants.specs.Rules.{line_cell, in_time}
use Rattle.tenants.specs.Together.{cell_in}
use Rattle.layout.specs.Layout.{record_at}
use Rattle.records.specs.declared.finding.Found.{Found}
use Rattle.records.specs.declared.finding.Found.TheVariants.{At, Absent}

-- the cell that the search found in a book, if it found one
abbrev pub found_cell : List ℕ → Found → StdOption Held
found_cell s (At i) = Some (cell_in (record_at s i))
found_cell s (Absent i) = None

-- a held cell; 104 where it is not held
abbrev pub held_cell : Option Held → Result Held Refusal
held_cell none = refused (by 104)
held_cell (some cell) = Ok cell

-- the line of a held cell for the ship of an HW_ID, written into an output of so many bytes
abbrev pub line_written : ℕ → Option Held → Setting → ℕ → ℕ → ℕ → Output
line_written hw none setting expiry level room = refusal (by 104)
line_written hw (some cell) setting expiry level room =
    demand (in_time cell expiry) (refusal (by 112)) (written_line hw (line_cell setting cell expiry level) room)
