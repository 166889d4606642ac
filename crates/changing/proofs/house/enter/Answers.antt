-- `changing::house::enter` meets its contract: the refusal, or a held name is replaced and a new one goes by the quota.
-- Assumes nothing.
use mathlib.Core.Path.{sym, ◌∙◌}
use native.Mathlib.Omega.{arith}
use Rattle.std.proofs.lemmas.Result.{err_from_is_err_and}
use Rattle.changing.proofs.ChangeRules.{entry_refused}
use Rattle.changing.proofs.Done.{own_count, enter_bound, enter_undamaged, enter_absent, enter_held}
use Rattle.changing.proofs.house.enter.Goals as goal

pub returns-in_err-own : goal.returns-in_err-own
returns-in_err-own c =
    let does = entry_refused _ _ _ _ _ c.is_held.ensures (sym c.admitted.ensures ∙ c.in_err-own.was) in
    let p = err_from_is_err_and c.from_residual.result c.from_residual.ensures.1 in
    rw (p.1, p.2) does

pub overflow_sub-own : goal.overflow_sub-own
overflow_sub-own c = omega (arith, own_count _ _ _ _ (sym c.admitted.ensures ∙ c.in_ok-own.was))

pub enter_new-requires : goal.enter_new-requires
enter_new-requires c =
    let so = sym c.admitted.ensures ∙ c.in_ok-own.was in
    record {
      book_value = enter_undamaged _ _ _ _ so _ c.is_held.ensures;
      tenant_bound = enter_bound _ _ _ _ so _ c.is_held.ensures;
      name_value = enter_absent _ _ _ _ so _ c.is_held.ensures _ (sym c.find.ensures ∙ c.in-Absent.is);
      held_value = omega (arith, own_count _ _ _ _ so);
    }

pub returns-in-At : goal.returns-in-At
returns-in-At c =
    let does = enter_held _ _ _ _ (sym c.admitted.ensures ∙ c.in_ok-own.was) _ c.is_held.ensures _ (sym c.find.ensures ∙ c.in-At.is) in
    (does.0, c.put_record.ensures ∙ does.1)
