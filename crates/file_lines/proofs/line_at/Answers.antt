-- `file_lines::line_at` meets its contract: each answer in its order.
-- Assumes nothing.
use Rattle.std.proofs.Common.{length, sym, ◌∙◌, arith, le-ltb, lt-ltb}
use Rattle.file_lines.specs.Lines.{line_ends, line_found}
use Rattle.file_lines.proofs.LineEnds.{begins_first, ends-within}
use Rattle.file_lines.proofs.PartEnds.{no_end_beyond}
use Rattle.file_lines.proofs.line_at.Goals as goal

pub returns-then-file-place : goal.returns-then-file-place
unfolding line_found
returns-then-file-place c =
    let args = c.args in
    let past = c.if-file-place.true in
    let first = begins_first args.file.now args.place in
    rw (
      no_end_beyond args.file.now args.place past,
      le-ltb (line_ends args.file.now args.place) (length args.file.now) (omega arith),
    )

pub returns-then-ends_at : goal.returns-then-ends_at
unfolding line_found
returns-then-ends_at c = rw (sym c.ends_at.ensures ∙ c.if-ends_at.true)

pub returns-then-end-file : goal.returns-then-end-file
unfolding line_found
returns-then-end-file c =
    let args = c.args in
    rw (
      sym c.ends_at.ensures ∙ c.if-ends_at.false,
      le-ltb (line_ends args.file.now args.place) (length args.file.now) (omega (arith, c.line_ends-end.ensures, c.if-end-file.true)),
    )

pub returns : goal.returns
unfolding line_found
returns c =
    let args = c.args in
    let within = ends-within args.file.now args.place c.if-file-place.false in
    rw (
      sym c.ends_at.ensures ∙ c.if-ends_at.false,
      lt-ltb (line_ends args.file.now args.place) (length args.file.now) (omega (arith, c.line_ends-end.ensures, c.if-end-file.false)),
      c.line_ends-end.ensures,
    )
