-- `blowfish::fill` meets its contract. The invariant: i pairs of words are replaced.
use Rattle.std.proofs.Common.{◌≡◌}
use Rattle.blowfish.specs.Schedule.{filled}
use Rattle.blowfish.proofs.fill.Given as goal

abbrev pub invariant-loop-i : goal.invariant-loop-i
invariant-loop-i l = record { words = l.words; block = l.block } ≡ filled l.i (record { words = l.initial.words; block = 0 })
