-- `records::finding::place_of` meets its contract. The invariant: to halve what is left, from low to high, ends at the place.
-- Assumes nothing.
use native.Mathlib.Omega.{arith}
use borrow.Author.Rules.{rules}
use Rattle.records.proofs.Searching.{all_left, left_up, left_down, none_left}
use Rattle.records.proofs.finding.place_of.Goals as goal

pub loop-low-init : goal.loop-low-init
loop-low-init c = all_left _ _ _ _ (search rules)

pub loop-low-preserved-then-name_at-name : goal.loop-low-preserved-then-name_at-name
loop-low-preserved-then-name_at-name c =
    left_up _ _ _ _ _ _ c.loop-low.invariant c.loop-low-test.true (omega arith) (omega (arith, c.name_at.ensures, c.if-name_at-name.true))

pub loop-low-preserved : goal.loop-low-preserved
loop-low-preserved c =
    left_down _ _ _ _ _ _ c.loop-low.invariant c.loop-low-test.true (omega (arith, c.name_at.ensures, c.if-name_at-name.false))

pub returns : goal.returns
returns c = none_left _ _ _ _ _ _ c.loop-low.invariant c.loop-low-test.false
