-- `line_shape::is_server_part` meets its contract. Each test that fails ends it.
-- Assumes nothing.
use Rattle.std.proofs.Common.{◌+◌, ◌≤◌, length, ◌∙◌, arith}
use Rattle.line_shape.proofs.Shapes.{no_room, no-comma3, no-comma4, no-server, by-comment}
use Rattle.line_shape.proofs.is_server_part.Goals as goal

pub returns-then-line-n : goal.returns-then-line-n
returns-then-line-n c = no_room _ _ c.if-line-n.true

pub returns-then-line-n-ne44 : goal.returns-then-line-n-ne44
returns-then-line-n-ne44 c = no-comma3 _ _ c.if-line-n-ne44.true

pub returns-then-line-n-ne44-2 : goal.returns-then-line-n-ne44-2
returns-then-line-n-ne44-2 c = no-comma4 _ _ c.if-line-n-ne44-2.true

pub returns-then-no_name-ge128 : goal.returns-then-no_name-ge128
returns-then-no_name-ge128 c =
    let room : 71 + c.args.n ≤ length c.args.line.now = omega arith in
    no-server c.args.line.now c.args.n room c.no_name.result c.no_name-2.result c.no_name.ensures c.no_name-2.ensures c.if-no_name-ge128.true c.if-line-n-ne44.false

pub returns : goal.returns
returns c =
    let room : 71 + c.args.n ≤ length c.args.line.now = omega arith in
    c.is_comment.ensures
    ∙ by-comment c.args.line.now c.args.n room c.no_name.result c.no_name-2.result c.no_name.ensures c.no_name-2.ensures
    c.if-no_name-ge128.false c.if-line-n-ne44.false c.if-line-n-ne44-2.false
