-- `mended_lines::put_unended` meets its contract: :ECS as it is, or added.
-- Assumes nothing.
use Rattle.std.proofs.Common.{refl, sym, ap, ◌∙◌}
use Rattle.mailed_lines.specs.Mailed.{is_ecs}
use Rattle.mended_lines.proofs.BothPut.{gave_both}
use Rattle.mended_lines.proofs.LineGives.{added_gives, ecs_gives}
use Rattle.mended_lines.proofs.put_unended.Goals as goal

pub returns-then-not-is_ecs : goal.returns-then-not-is_ecs
returns-then-not-is_ecs c =
    let args = c.args in
    let other = ap is_ecs (sym c.unblanked-left.ensures.0) ∙ sym c.is_ecs.ensures ∙ c.if-not-is_ecs.true in
    gave_both _ _ (added_gives args.count args.next args.line.now other) args.at args.out.now args.list.now
    6 c.put_added.result c.put_text.new.out c.put_added.new.list
    (refl, c.put_text.ensures) c.put_added.ensures

pub returns : goal.returns
returns c =
    let args = c.args in
    let ended = sym c.is_ecs.ensures ∙ c.if-not-is_ecs.false in
    gave_both _ _ (ecs_gives args.count args.next args.line.now _ c.unblanked-left.ensures.0 ended _ c.is_raised.ensures)
    args.at args.out.now args.list.now
    4 c.put_faults.result c.put_text-2.new.out c.put_faults.new.list
    (refl, c.put_text-2.ensures) c.put_faults.ensures
