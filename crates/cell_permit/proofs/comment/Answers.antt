-- `cell_permit::comment` meets its contract.
-- Assumes nothing.
use Rattle.std.specs.Prelude.{Some, None}
use mathlib.Core.Path.{◌≡◌, sym, ◌∙◌}
use Rattle.cell_permit.specs.Line.{comment_at}
use Rattle.cell_permit.proofs.Comments.{empty_comment, empty_point, place_within, part-after, part_point}
use Rattle.cell_permit.proofs.comment.Goals as goal

pub returns-in_default : goal.returns-in_default
returns-in_default c =
    let line = c.args.line in
    let none : comment_at line.now ≡ None = sym c.comment_place.ensures ∙ c.in_default.is in
    (sym (empty_comment line.now none), empty_point line none)

pub slice_bounds-result-count-2 : goal.slice_bounds-result-count-2
slice_bounds-result-count-2 c = place_within _ _ (sym c.comment_place.ensures ∙ c.in-Some.is)

pub slice_bounds-result-start-2 : goal.slice_bounds-result-start-2
slice_bounds-result-start-2 c = place_within _ _ (sym c.comment_place.ensures ∙ c.in-Some.is)

pub returns : goal.returns
returns c =
    let line = c.args.line in
    let place : comment_at line.now ≡ Some c.in-Some.at = sym c.comment_place.ensures ∙ c.in-Some.is in
    (part-after line.now _ place, part_point line _ place)
