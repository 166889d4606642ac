-- `blowfish::combine` meets its contract. The invariant: i words are combined.
use Rattle.std.proofs.Common.{◌≡◌}
use Rattle.blowfish.specs.Schedule.{keyed}
use Rattle.blowfish.proofs.combine.Given as goal

abbrev pub invariant-loop-i : goal.invariant-loop-i
invariant-loop-i l = l.words ≡ keyed l.key l.i l.initial.words
