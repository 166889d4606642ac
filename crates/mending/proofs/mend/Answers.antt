-- `mending::mend` meets its contract, by whether there are three lines.
-- Assumes nothing.
use Rattle.std.proofs.Common.{sym, ◌∙◌}
use Rattle.mending.proofs.HeaderTexts.{fewer}
use Rattle.mending.proofs.Mends.{mends_12}
use Rattle.mending.proofs.mend.Goals as goal

pub returns-in_default : goal.returns-in_default
returns-in_default c =
    let args = c.args in
    mends_12 args.file.now args.out.now args.list.now (fewer args.file.now (sym c.header_ends.ensures ∙ c.in_default.is))
