-- `writing_line::put_permit` meets its contract. The check is that of the characters before it.
-- Assumes nothing.
use mathlib.Core.Path.{◌≡◌}
use lib.ListN.{length}
use borrow.Author.Rules.{rules}
use Rattle.writing_line.proofs.LinePlaced.{permit_placed}
use Rattle.writing_line.proofs.put_permit.Goals as goal

pub returns : goal.returns
returns c =
    let size : length c.args.out.now ≡ 76 = search rules in
    permit_placed _ _ _ size _ _ _
    c.put_unchecked.ensures c.check_of-check.ensures c.put_hex.ensures
