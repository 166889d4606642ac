-- `judging::is_frame` meets its contract. Assumes nothing.
use mathlib.Core.Path.{sym, ◌∙◌}
use native.Mathlib.Omega.{arith}
use Rattle.layout.specs.Layout.{two}
use Rattle.judging.proofs.Forms.{form_facts}
use Rattle.judging.proofs.is_frame.Goals as goal

pub are_settings-requires : goal.are_settings-requires
are_settings-requires c = omega (arith, (form_facts two _ (sym c.has_form.ensures ∙ c.if-has_form.true)).size)
