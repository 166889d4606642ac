-- `judging::parts_from` meets its contract. The invariant: the parts are right so far, and which tenants are left.
-- Assumes nothing.
use mathlib.Core.Path.{◌≡◌, sym, ◌∙◌}
use Prim.Native.Nat.{◌-◌, ◌/◌}
use native.Mathlib.Omega.{arith}
use Rattle.layout.specs.Layout.{record_size}
use Rattle.judging.specs.Judging.{part_from}
use Rattle.std.specs.Prelude.{Some}
use Rattle.judging.proofs.PartsSteps.{part_leaves, left_all, left_none, left-wrong, left-long, left-next}
use Rattle.judging.proofs.parts_from.Goals as goal
use Rattle.judging.proofs.parts_from.Goals.{After-number16-quota}

-- where tenant t's part ends, as it was told
ends : (c : After-number16-quota)
    → let now = c.loop-t in
    let args = c.args in
    part_from args.book.now now.t 0 now.at ((args.used - now.at) / record_size) ≡ Some c.in_ok-end.end
ends c = sym c.part_from.ensures ∙ c.in_ok-end.was

pub loop-t-init : goal.loop-t-init
loop-t-init c = left_all _ _ _ _ _ (omega arith) (record { most = omega arith; fits = omega arith })

pub part_from-requires : goal.part_from-requires
part_from-requires c = let whole = c.loop-t.invariant.whole in (whole.most, omega arith, whole.fits)

pub returns-in_err-end : goal.returns-in_err-end
returns-in_err-end c =
    c.from_residual.ensures ∙ left-wrong _ _ _ _ _ c.loop-t.invariant c.loop-t-test.true (sym c.part_from.ensures ∙ c.in_err-end.was)

pub overflow_sub-end : goal.overflow_sub-end
overflow_sub-end c = (part_leaves _ _ _ _ _ c.loop-t.invariant.whole (ends (goal.at.overflow_sub-end c).After-number16-quota)).0

pub returns-then-quota-end : goal.returns-then-quota-end
returns-then-quota-end c =
    let told = (goal.at.returns-then-quota-end c).After-number16-quota in
    left-long _ _ _ _ _ c.loop-t.invariant c.loop-t-test.true _ (ends told) _ c.number16-quota.ensures c.if-quota-end.true

pub loop-t-preserved : goal.loop-t-preserved
loop-t-preserved c =
    let told = (goal.at.loop-t-preserved c).After-number16-quota in
    left-next _ _ _ _ _ c.loop-t.invariant c.loop-t-test.true _ (ends told) _ c.number16-quota.ensures c.if-quota-end.false

pub returns : goal.returns
returns c = left_none _ _ _ _ _ c.loop-t.invariant c.loop-t-test.false
