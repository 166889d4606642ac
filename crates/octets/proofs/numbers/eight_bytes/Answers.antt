-- `octets::numbers::eight_bytes` meets its contract: four pairs side by side make one number. Assumes nothing.
use mathlib.Core.Path.{sym}
use Rattle.octets.proofs.Places.{number_pairs}
use Rattle.octets.proofs.numbers.eight_bytes.Goals as goal

pub returns : goal.returns
returns c =
    rw (c.two_bytes.ensures, c.two_bytes-2.ensures, c.two_bytes-3.ensures, c.two_bytes-4.ensures)
    (sym (number_pairs _ _ c.requires))
