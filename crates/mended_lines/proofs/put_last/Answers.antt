-- `mended_lines::put_last` meets its contract: :ECS and CR LF, what stands after its LF, and what is said of it.
-- Assumes nothing.
use Rattle.mended_lines.proofs.BothPut.{gave_both}
use Rattle.mended_lines.proofs.LineGives.{told_gives}
use Rattle.mended_lines.proofs.put_last.Goals as goal

pub returns : goal.returns
returns c =
    let args = c.args in
    gave_both _ _ (told_gives args.faults.eol args.faults.blank args.count args.line.now args.after.now _ c.is_raised.ensures)
    args.at args.out.now args.list.now
    c.put_two.result c.put_faults.result c.put_two.new.out c.put_faults.new.list
    c.put_two.ensures c.put_faults.ensures
