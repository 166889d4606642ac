-- `octets::numbers::bytes40` meets its contract: the last five of the eight bytes. Assumes nothing.
use mathlib.Core.Path.{refl}
use native.Mathlib.Nat.{div-one}
use Rattle.octets.specs.Numbers.{digits}
use Rattle.octets.proofs.numbers.bytes40.Goals as goal

pub returns : goal.returns
unfolding digits
returns c = rw (c.to_be_bytes.ensures, div-one) refl
