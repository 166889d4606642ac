-- `layout::list_of` meets its contract.
-- Assumes nothing.
use Rattle.layout.proofs.Indexed.{list_beyond, list-own, list-principal}
use Rattle.layout.proofs.list_of.Goals as goal

pub returns-then-t-gt15 : goal.returns-then-t-gt15
returns-then-t-gt15 c = list_beyond _ _ c.if-t-gt15.true

pub returns-then-principal-eq0 : goal.returns-then-principal-eq0
returns-then-principal-eq0 c = list-own _ _ _ c.if-t-gt15.false c.byte_at-principal.ensures c.if-principal-eq0.true

pub returns-else-principal-eq0 : goal.returns-else-principal-eq0
returns-else-principal-eq0 c = list-principal _ _ _ c.if-t-gt15.false c.byte_at-principal.ensures c.if-principal-eq0.false
