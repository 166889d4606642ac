-- `user_permit::crc_of` meets its contract. Assumes nothing.
use mathlib.Core.Path.{sym, ap, ◌∙◌}
use lib.Seq.{length-take-le}
use Rattle.text.specs.Texts.{part}
use Rattle.text.proofs.PutTexts.{raised_whole}
use Rattle.crc32.specs.Crc32.{crc32_of}
use Rattle.user_permit.proofs.crc_of.Goals as goal

pub slice_bounds-put_raised-end-2 : goal.slice_bounds-put_raised-end-2
slice_bounds-put_raised-end-2 c =
    sym (length-take-le 16 c.args.permit.now c.requires)

pub returns : goal.returns
returns c =
    c.crc32.ensures ∙ ap crc32_of (raised_whole 16 (part 16 c.args.permit.now 0) _ (length-take-le 16 c.args.permit.now c.requires) c.put_raised.ensures)
