-- `opening::Given::is_principal` meets its contract.
-- Assumes nothing.
use mathlib.Core.Path.{◌≡◌, sym, ap, ◌∙◌}
use Prim.Native.Nat.{ℕ, ◌-◌}
use native.Mathlib.Omega.{arith}
use lib.Dec.{eqb}
use Rattle.tenants.specs.declared.Setting.{Setting}
use Rattle.tenants.proofs.Principals.{names_none_lem, names-nobody, names-with-quota}
use Rattle.opening.specs.Opening.{first_setting}
use Rattle.opening.proofs.GivenTests.{tenant_named}
use Rattle.opening.proofs.Given.is_principal.Goals as goal
use Rattle.opening.proofs.Given.is_principal.Goals.{After-setting-setting}

-- the setting of tenant t, as it was made
principal : (c : After-setting-setting)
    → let given = c.args.self.now in
    c.setting-setting.result.principal ≡ (first_setting given.quotas given.ids given.principals c.args.t).principal
principal c = ap (λ (s : Setting). s.principal) c.setting-setting.ensures

quota : (c : After-setting-setting)
    → let given = c.args.self.now in
    c.setting-setting.result.quota ≡ (first_setting given.quotas given.ids given.principals c.args.t).quota
quota c = ap (λ (s : Setting). s.quota) c.setting-setting.ensures

pub returns-then-setting-eq0 : goal.returns-then-setting-eq0
returns-then-setting-eq0 c = sym (names_none_lem _ _ _ (sym (principal (goal.at.returns-then-setting-eq0 c).After-setting-setting) ∙ c.if-setting-eq0.true))

pub returns-then-setting-gt16 : goal.returns-then-setting-gt16
returns-then-setting-gt16 c =
    let made = (goal.at.returns-then-setting-gt16 c).After-setting-setting in
    sym (names-nobody _ _ _ (λ e. c.if-setting-eq0.false (principal made ∙ e)) (omega (arith, principal made, c.if-setting-gt16.true)))

pub returns-then-setting-ne0 : goal.returns-then-setting-ne0
returns-then-setting-ne0 c =
    let made = (goal.at.returns-then-setting-ne0 c).After-setting-setting in
    sym (names-with-quota _ _ _ (λ e. c.if-setting-eq0.false (principal made ∙ e)) (λ e. c.if-setting-ne0.true (quota made ∙ e)))

pub returns : goal.returns
returns c =
    let made = (goal.at.returns c).After-setting-setting in
    let given = c.args.self.now in
    ap (λ (s : Setting). eqb s.principal 0) c.setting.ensures
    ∙ ap (λ (p : ℕ). eqb (first_setting given.quotas given.ids given.principals (p - 1)).principal 0) (principal made)
    ∙ tenant_named given.quotas given.ids given.principals c.args.t c.requires (λ e. c.if-setting-eq0.false (principal made ∙ e))
    (omega (arith, principal made, c.if-setting-gt16.false)) (sym (quota made) ∙ c.if-setting-ne0.false)
