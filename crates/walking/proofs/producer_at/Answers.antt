-- `walking::producer_at` meets its contract: the top two of the eight bytes after the tenant's.
-- Assumes nothing.
use mathlib.Core.Path.{ap, ◌∙◌}
use mathlib.Core.List.{List}
use Prim.Native.Nat.{ℕ}
use native.Mathlib.Omega.{arith}
use Rattle.octets.specs.Places.{number_at}
use Rattle.tenants.specs.Cells.{producer_of}
use Rattle.layout.specs.Layout.{record_size, record_place}
use Rattle.layout.proofs.Indexed.{record_name}
use Rattle.judging.proofs.Parts.{part_lent_lem, number_in_part}
use Rattle.walking.proofs.producer_at.Goals as goal

pub returns : goal.returns
returns c =
    let book = c.args.book.now in
    let i = c.args.i in
    let at = record_place i in
    ap producer_of
    (c.number64.ensures
    ∙ ap (λ (p : List ℕ). number_at 8 p 1) (part_lent_lem record_size book at)
    ∙ number_in_part record_size book at (omega arith) 8 1 (omega arith)
    ∙ record_name book i (λ k. omega (arith, c.type_inv.book k)))
