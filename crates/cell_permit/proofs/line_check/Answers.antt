-- `cell_permit::line_check` meets its contract. Assumes nothing.
use mathlib.Core.Path.{sym, ap, ◌∙◌}
use lib.Seq.{length-take-le}
use Rattle.text.specs.Texts.{part}
use Rattle.text.proofs.PutTexts.{raised_whole}
use Rattle.cell_permit.specs.CellPermit.{check_of}
use Rattle.cell_permit.proofs.line_check.Goals as goal

pub slice_bounds-put_raised-end-2 : goal.slice_bounds-put_raised-end-2
slice_bounds-put_raised-end-2 c =
    sym (length-take-le 48 c.args.line.now c.requires)

pub returns : goal.returns
returns c =
    c.check_of.ensures
    ∙ ap (check_of c.args.words.now) (raised_whole 48 (part 48 c.args.line.now 0) _ (length-take-le 48 c.args.line.now c.requires) c.put_raised.ensures)
