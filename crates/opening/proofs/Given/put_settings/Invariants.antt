-- `opening::Given::put_settings` meets its contract: the settings before that of tenant t are put.
-- Assumes nothing.
use Rattle.opening.proofs.FirstBook.{SettingsPut}
use Rattle.opening.proofs.Given.put_settings.Given as goal

abbrev pub invariant-loop-t : goal.invariant-loop-t
invariant-loop-t l = SettingsPut l.self.quotas l.self.ids l.self.principals l.initial.book l.book l.t
