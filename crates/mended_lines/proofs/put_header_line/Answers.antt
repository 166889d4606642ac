-- `mended_lines::put_header_line` meets its contract: the line with its letters raised, and what is said of it.
-- Assumes nothing.
use Rattle.mended_lines.proofs.BothPut.{gave_both}
use Rattle.mended_lines.proofs.LineGives.{header_gives_lem}
use Rattle.mended_lines.proofs.put_header_line.Goals as goal

pub returns : goal.returns
returns c =
    let args = c.args in
    gave_both _ _
    (header_gives_lem args.count args.text.now _ _ c.line_of-line.ensures.0 c.unblanked-left.ensures.0 _ c.is_raised.ensures)
    args.at args.out.now args.list.now
    c.put_two.result c.put_faults.result c.put_two.new.out c.put_faults.new.list
    c.put_two.ensures c.put_faults.ensures
