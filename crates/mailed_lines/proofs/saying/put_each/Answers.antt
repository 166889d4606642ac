-- `mailed_lines::saying::put_each` meets its contract: one after the other.
-- Assumes nothing.
use Rattle.std.proofs.Common.{arith}
use Rattle.mailed_lines.proofs.PutLines.{second_fits, third-fits, each-put}
use Rattle.mailed_lines.proofs.saying.put_each.Goals as goal

pub overflow_add-second : goal.overflow_add-second
overflow_add-second c =
    let args = c.args in
    let f = args.faults in
    let h = second_fits f.eol f.blank f.case args.count.number args.at args.list.now c.requires c.put_if.result c.put_if.ensures.0 in
    record { fits = omega (arith, h, c.well_formed.0) }

pub overflow_add-third : goal.overflow_add-third
overflow_add-third c =
    let args = c.args in
    let f = args.faults in
    let h =
    third-fits f.eol f.blank f.case args.count.number args.at args.list.now c.requires
    c.put_if.result c.put_if-2.result c.put_if.ensures.0 c.put_if-2.ensures.0 in
    record { fits = omega (arith, h, c.well_formed.0) }

pub returns : goal.returns
returns c =
    let args = c.args in
    let f = args.faults in
    each-put f.eol f.blank f.case args.count.number args.at args.list.now c.requires
    c.put_if.result c.put_if-2.result c.put_if.new.list c.put_if-2.new.list c.put_if-3.new.list
    c.put_if.ensures.0 c.put_if-2.ensures.0 c.put_if.ensures.1 c.put_if-2.ensures.1 c.put_if-3.ensures.1
