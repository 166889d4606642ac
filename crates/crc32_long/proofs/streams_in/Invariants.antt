-- `crc32_long::streams_in` meets its contract. The invariant: feeding what remains gives what the whole gives.
use Rattle.std.proofs.Common.{◌≡◌, drop}
use Rattle.std.specs.List.{fold}
use Rattle.crc32.specs.Crc32.{feed_all}
use Rattle.crc32_long.specs.Streams.{four_in}
use Rattle.crc32_long.proofs.streams_in.Given as goal

abbrev pub invariant-loop-s : goal.invariant-loop-s
invariant-loop-s l = fold feed_all (four_in l.x) (drop l.s-index l.sixteens) ≡ fold feed_all (four_in l.fn.x) l.sixteens
