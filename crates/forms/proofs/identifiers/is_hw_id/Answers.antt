-- `forms::identifiers::is_hw_id` meets its contract. Assumes nothing.
use mathlib.Core.Path.{ap, ◌∙◌}
use Rattle.forms.specs.Identifiers.{is_upper_hw_id}
use Rattle.forms.proofs.HwIds.{raised_form}
use Rattle.forms.proofs.identifiers.is_hw_id.Goals as goal

pub returns : goal.returns
returns c = c.is_hex_5.ensures ∙ ap is_upper_hw_id c.raised_hw_id.ensures ∙ raised_form _
