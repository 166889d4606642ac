-- `records::moving::put_used` meets its contract: the four lowest bytes of the used length.
-- Assumes nothing.
use mathlib.Core.Path.{ap, ◌∙◌}
use mathlib.Core.List.{List}
use Prim.Native.Nat.{ℕ}
use native.Mathlib.Omega.{arith}
use Rattle.octets.proofs.Digits.{digits_of_low}
use Rattle.text.specs.Texts.{placed}
use Rattle.records.proofs.moving.put_used.Goals as goal

pub returns : goal.returns
returns c =
    let start = c.args in
    c.put_text.ensures
    ∙ ap (λ (t : List ℕ). placed 1 t start.book.now) (c.bytes32-bytes.ensures ∙ digits_of_low 256 4 start.used (omega arith))
