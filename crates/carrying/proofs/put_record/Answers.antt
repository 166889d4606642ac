-- `carrying::put_record` meets its contract.
-- Assumes nothing.
use mathlib.Core.Path.{ap, ◌∙◌}
use Prim.Native.Nat.{ℕ, ◌+◌}
use native.Mathlib.Omega.{arith}
use Rattle.text.specs.Texts.{placed}
use Rattle.text.proofs.PlacedTexts.{placed-next}
use Rattle.layout.specs.Layout.{zeros}
use Rattle.carrying.proofs.put_record.Goals as goal

pub returns : goal.returns
returns c =
    let at : ℕ = c.args.at in
    c.put_text-2.ensures
    ∙ ap (placed (at + 24) (zeros 4)) c.put_text.ensures
    ∙ placed-next at (at + 24) c.args.part.now (zeros 4) c.args.new.now (omega (arith, c.requires.0)) (omega (arith, c.requires))
