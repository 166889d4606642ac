-- `report::rows::put_field` meets its contract: the word, and the number after it.
-- Assumes nothing.
use mathlib.Core.Path.{refl}
use Prim.Native.Nat.{◌+◌}
use lib.ListN.{length}
use Rattle.text.specs.Texts.{numeral}
use Rattle.report.proofs.Putting.{next_fits, both-put}
use Rattle.report.proofs.rows.put_field.Goals as goal

pub put_numeral-requires : goal.put_numeral-requires
put_numeral-requires c =
    next_fits c.args.at c.args.word.now (numeral c.args.x) c.args.out.now c.requires
    (c.args.at + length c.args.word.now) c.put_text.new.out (refl, c.put_text.ensures)

pub returns : goal.returns
returns c =
    both-put c.args.at c.args.word.now (numeral c.args.x) c.args.out.now c.requires
    (c.args.at + length c.args.word.now) c.put_text.new.out (refl, c.put_text.ensures)
    c.put_numeral.result c.put_numeral.new.out c.put_numeral.ensures
