-- `cell_permit::ship_words` meets its contract. The six bytes are HW_ID6.
-- Assumes nothing.
use mathlib.Core.Path.{ap, ◌∙◌}
use Rattle.octets.specs.Numbers.{bytes_of}
use Rattle.cell_permit.proofs.ShipKeys.{words_of_ship}
use Rattle.cell_permit.proofs.ship_words.Goals as goal

pub returns : goal.returns
returns c =
    words_of_ship _ c.bytes40-b.result _ _ (c.bytes40-b.ensures ∙ ap (bytes_of 5) c.raised_hw_id.ensures) c.key_schedule.ensures.1
