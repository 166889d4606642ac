-- `writing_line::put_fields` meets its contract. Three texts, each after the one before it.
-- Assumes nothing.
use mathlib.Core.Path.{◌≡◌}
use lib.ListN.{length}
use borrow.Author.Rules.{rules}
use Rattle.writing_line.proofs.LinePlaced.{fields-placed}
use Rattle.writing_line.proofs.put_fields.Goals as goal

pub returns : goal.returns
returns c =
    let size : length c.args.out.now ≡ 76 = search rules in
    fields-placed _ _ _ _ _ _ size c.requires.0 c.requires.1
    c.put_number.ensures
    c.put_number-2.ensures
    c.put_server.ensures
