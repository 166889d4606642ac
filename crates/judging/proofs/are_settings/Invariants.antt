-- `judging::are_settings` meets its contract. The invariant: the settings before t are right, with the sum of their quotas.
-- Assumes nothing.
use Rattle.judging.proofs.SettingTests.{SettingsFrom}
use Rattle.judging.proofs.are_settings.Given as goal

abbrev pub invariant-loop-t : goal.invariant-loop-t
invariant-loop-t l = SettingsFrom l.book l.sum l.t
