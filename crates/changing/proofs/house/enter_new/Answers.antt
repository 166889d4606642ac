-- `changing::house::enter_new` meets its contract: the tenant's own quota decides.
-- Assumes nothing.
use native.Mathlib.Omega.{arith}
use Rattle.changing.proofs.Done.{new_within, new_entered, new_refused}
use Rattle.changing.proofs.house.enter_new.Goals as goal

pub overflow_cast-has : goal.overflow_cast-has
overflow_cast-has c =
    let k = c.requires in
    omega (
      arith,
      (new_within _ k.book_value _ k.tenant_bound.0 _ k.tenant_bound.1.0 k.tenant_bound.1.1 _ k.name_value _ _ c.setting_of-quota.ensures k.held_value
          c.if-held-quota.true _ _ c.insert_record.ensures c.count-has.ensures).1,
    )

pub overflow_sub-after : goal.overflow_sub-after
overflow_sub-after c =
    let k = c.requires in
    omega (
      arith,
      (new_within _ k.book_value _ k.tenant_bound.0 _ k.tenant_bound.1.0 k.tenant_bound.1.1 _ k.name_value _ _ c.setting_of-quota.ensures k.held_value
          c.if-held-quota.true _ _ c.insert_record.ensures c.count-has.ensures).0,
    )

pub overflow_sub-after-then-held-quota : goal.overflow_sub-after-then-held-quota
overflow_sub-after-then-held-quota c =
    let k = c.requires in
    omega (
      arith,
      (new_within _ k.book_value _ k.tenant_bound.0 _ k.tenant_bound.1.0 k.tenant_bound.1.1 _ k.name_value _ _ c.setting_of-quota.ensures k.held_value
          c.if-held-quota.true _ _ c.insert_record.ensures c.count-has.ensures).0,
    )

pub returns-then-held-quota : goal.returns-then-held-quota
returns-then-held-quota c =
    let k = c.requires in
    new_entered _ k.book_value _ k.tenant_bound.0 _ k.tenant_bound.1.0 k.tenant_bound.1.1 _ k.name_value _ _ c.setting_of-quota.ensures k.held_value
    c.if-held-quota.true _ _ c.insert_record.ensures c.count-has.ensures

pub returns : goal.returns
returns c =
    let k = c.requires in
    new_refused _ k.book_value _ k.tenant_bound.0 _ k.tenant_bound.1.0 k.tenant_bound.1.1 _ k.name_value _ _ c.setting_of-quota.ensures k.held_value
    c.if-held-quota.false
