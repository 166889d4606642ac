-- `records::finding::cell_at` meets its contract: the fields at their places.
-- Assumes nothing.
use native.Mathlib.Omega.{arith}
use Rattle.records.proofs.RecordParts.{cell_read}
use Rattle.records.proofs.finding.cell_at.Goals as goal

pub returns : goal.returns
returns c =
    cell_read c.args.book.now c.args.i _ _ _ _ _ (λ k. omega (arith, c.type_inv.book k))
    c.number64.ensures
    c.number16.ensures
    c.number40.ensures
    c.number40-2.ensures
    c.number32.ensures
