-- `product_row::degrees_fields` meets its contract. The invariant: taking what is left of the n fields takes all of them.
-- Assumes nothing.
use mathlib.Core.Path.{◌≡◌}
use Prim.Native.Nat.{◌-◌, ◌<◌}
use lib.ListN.{replicate}
use Rattle.product_row.specs.Fields.{or_blank, is_degrees}
use Rattle.product_row.specs.Taking.{fields_left, taken_all}
use Rattle.product_row.proofs.degrees_fields.Given as goal

abbrev pub invariant-loop : goal.invariant-loop
invariant-loop l = (l.n - l.counter < fields_left l.line l.place) × (taken_all (replicate (l.n - l.counter) (or_blank is_degrees)) l.line l.place ≡ taken_all (replicate l.n (or_blank is_degrees)) l.line l.at)
