-- `mailed_lines::unblanked` meets its contract.
-- Assumes nothing.
use Rattle.std.proofs.Common.{sym, refl, rules}
use Rattle.mailed_lines.proofs.Lengths.{all_blank, unblanked_to}
use Rattle.mailed_lines.proofs.unblanked.Goals as goal

pub returns-in-Some : goal.returns-in-Some
returns-in-Some c = (unblanked_to c.args.line.now c.in-Some.last (search rules) (search rules) (search rules), refl)

pub returns-in-None : goal.returns-in-None
returns-in-None c = (sym (all_blank c.args.line.now (search rules)), refl)
