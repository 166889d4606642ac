-- `report::rows::put_row` meets its contract: count, number and name, one after the other.
-- Assumes nothing.
use mathlib.Core.List.{◌++◌}
use Rattle.text.specs.Texts.{numeral}
use Rattle.report.specs.LookThrough.{row_of}
use Rattle.report.specs.Turns.{row_number, row_end}
use Rattle.report.proofs.Putting.{first_fits, second_fits, third-fits, three_put}
use Rattle.report.proofs.rows.put_row.Goals as goal

pub put_numeral-number-requires : goal.put_numeral-number-requires
unfolding row_of row_end
put_numeral-number-requires c =
    let a = c.args.a in
    first_fits c.args.at (numeral c.args.count) (row_number a ++ row_end a) c.args.out.now c.requires

pub put_number-name-requires : goal.put_number-name-requires
unfolding row_of row_end
put_number-name-requires c =
    let a = c.args.a in
    second_fits c.args.at (numeral c.args.count) (row_number a) (row_end a) c.args.out.now c.requires
    c.put_numeral-number.result c.put_numeral-number.new.out c.put_numeral-number.ensures

pub put_row_end-requires : goal.put_row_end-requires
unfolding row_of row_end
put_row_end-requires c =
    let a = c.args.a in
    third-fits c.args.at (numeral c.args.count) (row_number a) (row_end a) c.args.out.now c.requires
    c.put_numeral-number.result c.put_numeral-number.new.out c.put_numeral-number.ensures
    c.put_number-name.result c.put_number-name.new.out c.put_number-name.ensures

pub returns : goal.returns
unfolding row_of row_end
returns c =
    let a = c.args.a in
    three_put c.args.at (numeral c.args.count) (row_number a) (row_end a) c.args.out.now c.requires
    c.put_numeral-number.result c.put_numeral-number.new.out c.put_numeral-number.ensures
    c.put_number-name.result c.put_number-name.new.out c.put_number-name.ensures
    c.put_row_end.result c.put_row_end.new.out c.put_row_end.ensures
