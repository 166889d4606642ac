-- `report::list_all` meets its contract: the rows of all answers, and the totals.
-- Assumes nothing.
use Rattle.std.specs.Prelude.{Result}
use mathlib.Core.Path.{◌≡◌, ap, ap₂, ◌∙◌}
use mathlib.Core.List.{List}
use Prim.Native.Nat.{ℕ, ◌-◌, ◌≤◌}
use native.Mathlib.Omega.{arith}
use lib.ListN.{length, take, drop, length-drop}
use lib.Seq.{take_all}
use Rattle.text.specs.Texts.{placed}
use Rattle.forms.specs.declared.refusals.Refusal.{Refusal}
use Rattle.cell_permit.specs.declared.Record.{Record}
use Rattle.cell_permit.specs.CellPermit.{ship_words}
use Rattle.cell_permit.specs.Line.{read_with}
use Rattle.permit_file.specs.Answers.{enc_answers}
use Rattle.report.specs.LookThrough.{file_of, answers_of, rows_from, line_ends_in}
use Rattle.report.specs.Turns.{tally_of}
use Rattle.report.proofs.Starts.{first_within}
use Rattle.report.proofs.Reports.{size, shape, file_within, same_answers, rows_and_totals, totals-fit, report-put}
use Rattle.report.proofs.list_all.Goals as goal
use Rattle.report.proofs.list_all.Goals.{After-days_of-days, After-list_lines-t}

rest_file : (input : List ℕ) → take (length input - 19) (drop 19 input) ≡ file_of input
rest_file input = take_all (length input - 19) (drop 19 input) (simp length-drop (omega arith))

module _ (lines : After-list_lines-t) where
  abbrev input : List ℕ
  input = lines.args.input.now

  abbrev out : List ℕ
  out = lines.args.out.now

  abbrev out1 : List ℕ
  out1 = lines.list_lines-t.new.out

  answers
      : enc_answers
      (read_with
      lines.ship_words.new.words
      lines.today_of-today.result
      lines.days_of-days.result)
      (take (length input - 19) (drop 19 input))
      ≡ answers_of input
  answers =
      same_answers input lines.ship_words.new.words (take (length input - 19) (drop 19 input)) lines.today_of-today.result lines.days_of-days.result
      (lines.ship_words.ensures ∙ ap ship_words lines.hw_of.ensures)
      lines.today_of-today.ensures
      lines.days_of-days.ensures
      (rest_file input)

  tallied : lines.list_lines-t.result ≡ tally_of (length (file_of input)) (answers_of input)
  tallied = lines.list_lines-t.ensures.0 ∙ ap₂ tally_of (ap length (rest_file input)) answers

  listed : out1 ≡ placed 0 (rows_from 1 (answers_of input)) out
  listed = lines.list_lines-t.ensures.1 ∙ ap (λ (l : List (Result Record Refusal)). placed 0 (rows_from 1 l) out) answers

line_within : (days : After-days_of-days) → 19 ≤ length days.args.input.now
line_within days =
    first_within days.args.input.now (shape days.args.input.now days.requires.input_value)

pub days_of-days-requires : goal.days_of-days-requires
days_of-days-requires c = shape c.args.input.now c.requires.input_value

pub slice_bounds-list_lines-count : goal.slice_bounds-list_lines-count
slice_bounds-list_lines-count c = omega (arith, line_within (goal.at.slice_bounds-list_lines-count c).After-days_of-days)

pub slice_bounds-list_lines-start : goal.slice_bounds-list_lines-start
slice_bounds-list_lines-start c = omega (arith, line_within (goal.at.slice_bounds-list_lines-start c).After-days_of-days)

pub list_lines-t-requires : goal.list_lines-t-requires
list_lines-t-requires c =
    let input = c.args.input.now in
    let same = ap length (rest_file input) in
    let good = c.requires.input_value in
    let ends = ap line_ends_in (rest_file input) in record { in_bounds = (omega (arith, same, file_within input good), omega (arith, same, size input good, length-drop 19 input)); file_in_bounds = omega (arith, ends, rows_and_totals input good, c.requires.input_in_bounds) }

pub put_totals-requires : goal.put_totals-requires
put_totals-requires c =
    let lines = (goal.at.put_totals-requires c).After-list_lines-t in
    let pre = c.requires in
    totals-fit (input lines) pre.input_value (out lines) pre.input_in_bounds c.list_lines-t.result (tallied lines) (out1 lines) (listed lines)

pub returns : goal.returns
returns c =
    let lines = (goal.at.returns c).After-list_lines-t in
    let pre = c.requires in
    report-put (input lines) pre.input_value (out lines) pre.input_in_bounds c.list_lines-t.result (tallied lines) (out1 lines) (listed lines)
    c.put_totals.result c.put_totals.new.out c.put_totals.ensures
