-- `opening::Given::put_settings` meets its contract: the settings before that of tenant t are put.
-- Assumes nothing.
use native.Mathlib.Omega.{arith}
use Rattle.opening.proofs.FirstBook.{settings_none, settings_next, settings_all}
use Rattle.opening.proofs.Given.put_settings.Goals as goal

pub loop-t-init : goal.loop-t-init
loop-t-init c = settings_none _ _ _ (omega (arith, c.requires))

pub loop-t-preserved : goal.loop-t-preserved
loop-t-preserved c =
    let now = c.loop-t in
    settings_next _ _ _ now.invariant (omega arith) _ _ c.setting.ensures c.put_setting.ensures

pub shape_of-book : goal.shape_of-book
shape_of-book c = c.loop-t.invariant.put.same

pub returns : goal.returns
returns c = settings_all _ _ _ c.loop-t.invariant (omega arith)
