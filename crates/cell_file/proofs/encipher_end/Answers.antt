-- `cell_file::encipher_end` meets its contract.
use mathlib.Core.Path.{sym, ◌∙◌}
use native.Mathlib.Omega.{arith}
use Rattle.cell_file.proofs.Calls.{carried_says, end_wrote}
use Rattle.cell_file.proofs.encipher_end.Goals as goal

pub put_end-requires : goal.put_end-requires
put_end-requires c =
    carried_says _ _ (sym c.is_carried.ensures ∙ c.if-not-is_carried.false)

pub returns : goal.returns
returns c =
    end_wrote _ _ _ _ _ _ (omega arith) (sym c.is_carried.ensures ∙ c.if-not-is_carried.false) (omega arith)
    c.cell_words.ensures c.put_end.ensures
