-- `pi::put_start` meets its contract: the five tables, one after the other, make pi_fraction by one computed test.
use mathlib.Core.Path.{refl}
use Rattle.octets.specs.Numbers.{value}
use Rattle.pi.specs.Pi.{series, pi_times, pi_fraction}
use Rattle.pi.proofs.PiWords.{tables_are_pi}
use Rattle.pi.proofs.put_start.Goals as goal

pub returns : goal.returns
unfolding value series pi_times pi_fraction
returns c =
    tables_are_pi c.place.ensures c.place-2.ensures c.place-3.ensures c.place-4.ensures c.place-5.ensures tt refl tt
