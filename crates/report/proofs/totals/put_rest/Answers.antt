-- `report::totals::put_rest` meets its contract: three fields, the last with LF.
-- Assumes nothing.
use mathlib.Core.List.{List, ◌++◌}
use Prim.Native.Nat.{ℕ}
use Rattle.text.specs.Ascii.{ascii}
use Rattle.text.specs.Texts.{numeral}
use Rattle.report.specs.Turns.{last_field, totals_end}
use Rattle.report.specs.declared.rows.Tally.{Tally}
use Rattle.report.proofs.Putting.{first_fits, second_fits, third-fits, three_put}
use Rattle.report.proofs.totals.put_rest.Goals as goal

abbrev soon : Tally → List ℕ
soon t = ascii " soon " ++ numeral t.soon

abbrev expired : Tally → List ℕ
expired t = ascii " expired " ++ numeral t.expired

abbrev refused : Tally → List ℕ
refused t = last_field (ascii " refused ") t.refused

pub put_field-soon-requires : goal.put_field-soon-requires
unfolding totals_end
put_field-soon-requires c =
    let t = c.args.t in
    first_fits c.args.at (soon t) (expired t ++ refused t) c.args.out.now c.requires

pub put_field-expired-requires : goal.put_field-expired-requires
unfolding totals_end
put_field-expired-requires c =
    let t = c.args.t in
    second_fits c.args.at (soon t) (expired t) (refused t) c.args.out.now c.requires
    c.put_field-soon.result c.put_field-soon.new.out c.put_field-soon.ensures

pub put_last-requires : goal.put_last-requires
unfolding totals_end
put_last-requires c =
    let t = c.args.t in
    third-fits c.args.at (soon t) (expired t) (refused t) c.args.out.now c.requires
    c.put_field-soon.result c.put_field-soon.new.out c.put_field-soon.ensures
    c.put_field-expired.result c.put_field-expired.new.out c.put_field-expired.ensures

pub returns : goal.returns
unfolding totals_end
returns c =
    let t = c.args.t in
    three_put c.args.at (soon t) (expired t) (refused t) c.args.out.now c.requires
    c.put_field-soon.result c.put_field-soon.new.out c.put_field-soon.ensures
    c.put_field-expired.result c.put_field-expired.new.out c.put_field-expired.ensures
    c.put_last.result c.put_last.new.out c.put_last.ensures
