-- `file_lines::line_length` meets its contract: the words that are passed begin no CR LF, and the first of the rest ends the line.
-- Assumes nothing.
use Rattle.std.proofs.Common.{◌≡◌, ◌-◌, length, slice_range, ap, drop, length-drop, arith}
use Rattle.std.specs.Option.{unwrap_or}
use Rattle.file_lines.specs.Lines.{line_length}
use Rattle.file_lines.proofs.Fronts.{to_end}
use Rattle.file_lines.proofs.LineEnds.{passed_words, first_line_end}
use Rattle.file_lines.proofs.line_length.Goals as goal

pub returns : goal.returns
returns c =
    let s = c.args.rest.now in
    let n = c.words_passed-passed.result in
    let on = passed_words n s c.words_passed-passed.ensures.0 c.words_passed-passed.ensures.1 in
    let rest = slice_range s n (length s) in
    let whole : rest ≡ drop n s = to_end s n in
    let first = first_line_end rest c.line_end_in.result c.line_end_in.ensures in
    let size : length rest ≡ length s - n = rw whole (length-drop n s) in
    let left : c.unwrap_or.result ≡ unwrap_or c.line_end_in.result (length rest) = rw size c.unwrap_or.ensures in
    omega (arith, on, first, left, ap line_length whole)
