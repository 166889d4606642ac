-- `report::start::judge_start` meets its contract: what opening says is said of the input.
-- Assumes nothing.
use Rattle.std.proofs.Common.{◌≡◌, ◌-◌, ◌∙◌, sym, ap, Ok, Err, List, ℕ, length, take, drop, length-drop, arith, rules}
use Rattle.std.proofs.lemmas.List.{take_all}
use Rattle.forms.specs.Refusals.{done_or}
use Rattle.cell_permit.specs.Line.{given_answer}
use Rattle.permit_file.specs.File.{open_of}
use Rattle.report.specs.LookThrough.{hw_of, today_of, days_of, file_of}
use Rattle.report.proofs.Starts.{by-opening}
use Rattle.report.proofs.start.judge_start.Goals as goal

rest_file : (input : List ℕ) → take (length input - 19) (drop 19 input) ≡ file_of input
rest_file input = take_all (length input - 19) (drop 19 input) (omega (arith, length-drop 19 input))

pub returns-in_err-open : goal.returns-in_err-open
returns-in_err-open c =
    let input = c.args.input.now in
    let given : given_answer (hw_of input) (today_of input) (days_of input) ≡ Ok tt =
    rw (sym c.hw_of.ensures, sym c.today_of.ensures, sym c.days_of.ensures) (sym c.in_ok-judge_given.ensures) in
    let answer : c.from_residual-in_err-open.result ≡ Err c.in_err-open.field-0.0 = search rules in
    answer
    ∙ ap done_or (c.in_err-open.ensures ∙ ap open_of (rest_file input))
    ∙ by-opening input c.if-input-gt65536.false (sym c.is_first_line.ensures ∙ c.if-not-is_first_line.false) given

pub returns : goal.returns
returns c =
    let input = c.args.input.now in
    let given : given_answer (hw_of input) (today_of input) (days_of input) ≡ Ok tt =
    rw (sym c.hw_of.ensures, sym c.today_of.ensures, sym c.days_of.ensures) (sym c.in_ok-judge_given.ensures) in
    ap done_or (c.in_ok-open.ensures ∙ ap open_of (rest_file input))
    ∙ by-opening input c.if-input-gt65536.false (sym c.is_first_line.ensures ∙ c.if-not-is_first_line.false) given
