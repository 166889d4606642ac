-- `report::totals::put_totals` meets its contract: two fields, and the rest.
-- Assumes nothing.
use mathlib.Core.List.{List, ◌++◌}
use Prim.Native.Nat.{ℕ}
use Rattle.text.specs.Ascii.{ascii}
use Rattle.text.specs.Texts.{numeral}
use Rattle.report.specs.Turns.{totals_end, totals_text}
use Rattle.report.specs.declared.rows.Tally.{Tally}
use Rattle.report.proofs.Putting.{first_fits, second_fits, third-fits, three_put}
use Rattle.report.proofs.totals.put_totals.Goals as goal

abbrev records : Tally → List ℕ
records t = ascii "records " ++ numeral t.count

abbrev current : Tally → List ℕ
current t = ascii " current " ++ numeral t.current

abbrev others : Tally → List ℕ
others t = totals_end t

pub put_field-records-requires : goal.put_field-records-requires
unfolding totals_text
put_field-records-requires c =
    let t = c.args.t in
    first_fits t.written (records t) (current t ++ others t) c.args.out.now c.requires

pub put_field-current-requires : goal.put_field-current-requires
unfolding totals_text
put_field-current-requires c =
    let t = c.args.t in
    second_fits t.written (records t) (current t) (others t) c.args.out.now c.requires
    c.put_field-records.result c.put_field-records.new.out c.put_field-records.ensures

pub put_rest-requires : goal.put_rest-requires
unfolding totals_text
put_rest-requires c =
    let t = c.args.t in
    third-fits t.written (records t) (current t) (others t) c.args.out.now c.requires
    c.put_field-records.result c.put_field-records.new.out c.put_field-records.ensures
    c.put_field-current.result c.put_field-current.new.out c.put_field-current.ensures

pub returns : goal.returns
unfolding totals_text
returns c =
    let t = c.args.t in
    three_put t.written (records t) (current t) (others t) c.args.out.now c.requires
    c.put_field-records.result c.put_field-records.new.out c.put_field-records.ensures
    c.put_field-current.result c.put_field-current.new.out c.put_field-current.ensures
    c.put_rest.result c.put_rest.new.out c.put_rest.ensures
