-- `blocks::put_blocks` meets its contract. The invariant: i blocks are put.
use Rattle.std.proofs.Common.{◌≡◌}
use Rattle.blocks.specs.Fours.{all_put}
use Rattle.blocks.proofs.put_blocks.Given as goal

abbrev pub invariant-loop-i : goal.invariant-loop-i
invariant-loop-i l = l.out ≡ all_put l.blocks l.at l.i l.initial.out
