-- `changing::house::withdraw` meets its contract: the refusal, or the record is taken out.
-- Assumes nothing.
use mathlib.Core.Path.{sym, ap, ◌∙◌}
use Prim.Native.Nat.{ℕ, ◌-◌}
use native.Mathlib.Omega.{arith}
use Rattle.std.specs.Prelude.{Ok}
use Rattle.std.proofs.lemmas.Result.{err_from_is_err_and}
use Rattle.changing.proofs.ChangeRules.{withdrawal_refused}
use Rattle.changing.proofs.Done.{withdraw_absent, withdraw_within, withdraw_held}
use Rattle.changing.proofs.house.withdraw.Goals as goal

pub returns-in_err-own : goal.returns-in_err-own
returns-in_err-own c =
    let does = withdrawal_refused _ _ _ _ _ c.is_cell_name.ensures (sym c.admitted.ensures ∙ c.in_err-own.was) in
    let p = err_from_is_err_and c.from_residual.result c.from_residual.ensures.1 in
    rw (p.1, p.2) does

pub returns-in_default : goal.returns-in_default
returns-in_default c =
    withdraw_absent _ _ _ _ (sym c.admitted.ensures ∙ c.in_ok-own.was) _ c.is_cell_name.ensures _ (sym c.find.ensures ∙ c.in_default.is)

pub overflow_cast-had : goal.overflow_cast-had
overflow_cast-had c =
    omega (
      arith,
      c.count-had.ensures,
      (withdraw_within _ _ _ _ (sym c.admitted.ensures ∙ c.in_ok-own.was) _ c.is_cell_name.ensures _ (sym c.find.ensures ∙ c.in-At.is)).1,
    )

pub overflow_sub-after : goal.overflow_sub-after
overflow_sub-after c =
    omega (
      arith,
      c.count-had.ensures,
      (withdraw_within _ _ _ _ (sym c.admitted.ensures ∙ c.in_ok-own.was) _ c.is_cell_name.ensures _ (sym c.find.ensures ∙ c.in-At.is)).0,
    )

pub overflow_sub-after-2 : goal.overflow_sub-after-2
overflow_sub-after-2 c =
    omega (
      arith,
      c.count-had.ensures,
      (withdraw_within _ _ _ _ (sym c.admitted.ensures ∙ c.in_ok-own.was) _ c.is_cell_name.ensures _ (sym c.find.ensures ∙ c.in-At.is)).0,
    )

pub returns : goal.returns
returns c =
    let does = withdraw_held _ _ _ _ (sym c.admitted.ensures ∙ c.in_ok-own.was) _ c.is_cell_name.ensures _ (sym c.find.ensures ∙ c.in-At.is) in
    (ap (λ (m : ℕ). Ok (m - 1 - c.in-At.i)) c.count-had.ensures ∙ does.0, c.remove_record.ensures ∙ does.1)
