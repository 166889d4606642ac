-- `blocks::cipher_blocks` meets its contract. The invariant: the first i blocks are worked, and those after them are as they were.
use mathlib.Core.Path.{◌≡◌}
use Prim.Native.Nat.{◌-◌, ◌*◌, ◌≤◌}
use lib.ListN.{length}
use Rattle.blocks.specs.Fours.{cipher_by}
use Rattle.blocks.proofs.EachBlocks.{worked}
use Rattle.blocks.proofs.cipher_blocks.Given as goal

abbrev pub invariant-loop-i : goal.invariant-loop-i
invariant-loop-i g l = (l.i ≤ l.n) × (8 * l.n ≤ length l.s) × (8 * l.n ≤ length l.initial.out) × (length l.out ≡ length l.initial.out) × (l.out ≡ worked (cipher_by l.words g.q) l.s l.initial.out l.i)

abbrev pub decreases-loop-i : goal.decreases-loop-i
decreases-loop-i g l = l.n - l.i
