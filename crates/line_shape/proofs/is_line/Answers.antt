-- `line_shape::is_line` meets its contract. Each part that is wrong makes the line wrong.
-- Assumes nothing.
use Rattle.std.proofs.Common.{sym, ◌∙◌}
use Rattle.line_shape.proofs.Shapes.{too_short, too_long, no-permit, no-level-part, few, by_server}
use Rattle.line_shape.proofs.is_line.Goals as goal

pub returns-then-line-lt71 : goal.returns-then-line-lt71
returns-then-line-lt71 c = too_short _ c.if-line-lt71.true

pub returns-then-line-gt160 : goal.returns-then-line-gt160
returns-then-line-gt160 c = too_long _ c.if-line-gt160.true

pub returns-then-not-is_permit : goal.returns-then-not-is_permit
returns-then-not-is_permit c = no-permit _ c.if-line-gt160.false (sym c.is_permit.ensures ∙ c.if-not-is_permit.true)

pub returns-then-not-is_level_part : goal.returns-then-not-is_level_part
returns-then-not-is_level_part c =
    no-level-part _ c.if-line-gt160.false (sym c.is_permit.ensures ∙ c.if-not-is_permit.false)
    (sym c.is_level_part.ensures ∙ c.if-not-is_level_part.true)

pub is_server_part-requires : goal.is_server_part-requires
is_server_part-requires c =
    few c.args.line.now _ c.edition_length.ensures

pub returns : goal.returns
returns c =
    c.is_server_part.ensures
    ∙ by_server _ c.if-line-gt160.false (sym c.is_permit.ensures ∙ c.if-not-is_permit.false)
    (sym c.is_level_part.ensures ∙ c.if-not-is_level_part.false) _ c.edition_length.ensures
