-- `writing_line::put_unchecked` meets its contract. Four texts, each after the one before it.
-- Assumes nothing.
use mathlib.Core.Path.{◌≡◌}
use lib.ListN.{length}
use borrow.Author.Rules.{rules}
use Rattle.writing_line.proofs.LinePlaced.{unchecked-placed}
use Rattle.writing_line.proofs.put_unchecked.Goals as goal

pub returns : goal.returns
returns c =
    let size : length c.args.out.now ≡ 76 = search rules in
    unchecked-placed _ _ _ size _ _ _ _ _
    c.bytes64-name.ensures
    c.put_text.ensures
    c.put_decimal.ensures
    c.put_key.ensures
    c.put_key-2.ensures
