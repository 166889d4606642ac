-- `report::totals::put_last` meets its contract: the field, and LF after it.
-- Assumes nothing.
use mathlib.Core.Path.{refl}
use mathlib.Core.List.{◌++◌}
use Prim.Native.Nat.{◌+◌, ◌≤◌}
use native.Mathlib.Omega.{arith}
use lib.ListN.{length}
use Rattle.text.specs.Ascii.{ascii}
use Rattle.text.specs.Texts.{numeral}
use Rattle.report.specs.Turns.{last_field}
use Rattle.report.proofs.Putting.{first_fits, next_fits, both-put}
use Rattle.report.proofs.totals.put_last.Goals as goal
use Rattle.report.proofs.totals.put_last.Goals.{After-put_field-end}

pub put_field-end-requires : goal.put_field-end-requires
unfolding last_field
put_field-end-requires c =
    first_fits c.args.at (c.args.word.now ++ numeral c.args.x) (ascii "\n") c.args.out.now c.requires

module _ (f : After-put_field-end) where
  left : f.put_field-end.result + 1 ≤ length f.put_field-end.new.out
  unfolding last_field
  left =
      next_fits f.args.at (f.args.word.now ++ numeral f.args.x) (ascii "\n") f.args.out.now f.requires
      f.put_field-end.result f.put_field-end.new.out f.put_field-end.ensures

pub overflow_add-result : goal.overflow_add-result
overflow_add-result c = omega (arith, left (goal.at.overflow_add-result c).After-put_field-end)

pub returns : goal.returns
unfolding last_field
returns c =
    both-put c.args.at (c.args.word.now ++ numeral c.args.x) (ascii "\n") c.args.out.now c.requires
    c.put_field-end.result c.put_field-end.new.out c.put_field-end.ensures
    (c.put_field-end.result + 1) c.put_text.new.out (refl, c.put_text.ensures)
