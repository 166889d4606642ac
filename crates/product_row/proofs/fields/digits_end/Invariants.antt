-- `product_row::fields::digits_end` meets its contract. The loop's invariant: the digits from i on end where those from the place do.
-- Assumes nothing.
use mathlib.Core.Path.{◌≡◌}
use Prim.Native.Nat.{◌-◌, ◌<◌}
use lib.ListN.{length}
use Rattle.product_row.specs.Taking.{field_ends, digits_end}
use Rattle.product_row.proofs.fields.digits_end.Given as goal

abbrev pub invariant-loop-i : goal.invariant-loop-i
invariant-loop-i l = (l.i < length l.line) × (field_ends l.line l.i < length l.line) × (digits_end l.line l.i ≡ digits_end l.line l.at)

abbrev pub decreases-loop-i : goal.decreases-loop-i
decreases-loop-i l = length l.line - l.i
