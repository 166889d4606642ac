-- `writing_line::put_number` meets its contract. The digits follow the comma.
-- Assumes nothing.
use mathlib.Core.Path.{ap, ◌∙◌}
use lib.ListN.{length}
use Rattle.text.proofs.PlacedTexts.{length-placed}
use Rattle.writing_line.proofs.LinePlaced.{number_placed}
use Rattle.writing_line.proofs.put_number.Goals as goal

pub shape_of-out : goal.shape_of-out
shape_of-out c = ap length (number_placed _ _ _ c.args.out.now _ c.put_decimal.ensures c.requires) ∙ length-placed _ _ _

pub returns : goal.returns
returns c = number_placed _ _ _ _ _ c.put_decimal.ensures c.requires
