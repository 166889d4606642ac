-- `judging::are_settings` meets its contract. The invariant: the settings before t are right, with the sum of their quotas.
-- Assumes nothing.
use mathlib.Core.Path.{◌≡◌, sym, ap, ◌∙◌}
use mathlib.Core.List.{List}
use Prim.Native.Nat.{ℕ, ◌+◌, ◌-◌}
use native.Mathlib.Omega.{arith}
use Rattle.octets.specs.Places.{number_at}
use Rattle.text.specs.Texts.{part}
use Rattle.layout.specs.Layout.{setting_size, setting_place}
use Rattle.judging.specs.Judging.{setting_part, setting_test}
use Rattle.judging.proofs.Parts.{part_lent_lem}
use Rattle.judging.proofs.SettingTests.{settings_start, settings-next, settings-end, setting-wrong}
use Rattle.judging.proofs.are_settings.Goals as goal
use Rattle.judging.proofs.are_settings.Goals.{After-is_setting}

pub loop-t-init : goal.loop-t-init
loop-t-init c = settings_start _

-- the part that is lent is the setting
lent : (book : List ℕ) (t : ℕ) → part (setting_place t + setting_size - setting_place t) book (setting_place t) ≡ setting_part book t
lent book t = part_lent_lem setting_size book (setting_place t)

tested : (c : After-is_setting)
    → let book = c.args.book.now in
    c.is_setting.result ≡ setting_test (setting_part book c.loop-t.t)
tested c = c.is_setting.ensures ∙ ap setting_test (lent _ c.loop-t.t)

pub returns-then-not-is_setting : goal.returns-then-not-is_setting
returns-then-not-is_setting c =
    sym (setting-wrong _ c.loop-t.invariant c.loop-t-test.true (sym (tested (goal.at.returns-then-not-is_setting c).After-is_setting) ∙ c.if-not-is_setting.true))

pub loop-t-preserved : goal.loop-t-preserved
loop-t-preserved c =
    settings-next _ c.loop-t.invariant c.loop-t-test.true (omega arith) (λ k. omega (arith, c.type_inv.book k))
    (sym (tested (goal.at.loop-t-preserved c).After-is_setting) ∙ c.if-not-is_setting.false) _
    (c.number16.ensures ∙ ap (λ (p : List ℕ). number_at 2 p 0) (lent _ c.loop-t.t))

pub returns : goal.returns
returns c = settings-end _ c.loop-t.invariant c.loop-t-test.false
