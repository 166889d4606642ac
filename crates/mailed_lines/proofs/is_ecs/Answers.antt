-- `mailed_lines::is_ecs` meets its contract: four bytes, raised, are :ECS.
-- Assumes nothing.
use mathlib.Core.Path.{sym, ◌∙◌}
use Rattle.text.proofs.PutTexts.{raised_whole}
use Rattle.mailed_lines.proofs.Fates.{other_size, ecs_stands}
use Rattle.mailed_lines.proofs.is_ecs.Goals as goal

pub returns-then-line-ne4 : goal.returns-then-line-ne4
returns-then-line-ne4 c = sym (other_size c.args.line.now c.if-line-ne4.true)

pub returns : goal.returns
returns c =
    let line = c.args.line.now in
    c.stands_at.ensures
    ∙ ecs_stands line c.put_raised.new.out c.if-line-ne4.false (raised_whole 4 line c.put_raised.new.out c.if-line-ne4.false c.put_raised.ensures)
