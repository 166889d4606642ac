-- `file_lines::are_past_cr` meets its contract.
-- Assumes nothing.
use Rattle.std.proofs.Common.{arith, rules}
use Rattle.text.proofs.AtOnce.{bytes_all}
use Rattle.file_lines.proofs.Fronts.{past_cr}
use Rattle.file_lines.proofs.are_past_cr.Goals as goal

pub returns : goal.returns
unfolding bytes_all
returns c none = past_cr c.args.word.now _ (search rules) (search rules) (omega arith) (omega arith) none
