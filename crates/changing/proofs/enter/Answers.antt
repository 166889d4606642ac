-- `changing::enter` meets its contract: what the house is answered, without how many records moved.
-- Assumes nothing.
use mathlib.Core.Path.{sym, ap, ◌∙◌}
use Rattle.std.proofs.lemmas.Result.{err_from_is_err_and}
use Rattle.forms.specs.Refusals.{done_or}
use Rattle.changing.proofs.Numbers.{same_answer}
use Rattle.changing.proofs.enter.Goals as goal

pub returns-in_err-enter : goal.returns-in_err-enter
returns-in_err-enter c =
    let answered = ap done_or (sym c.in_err-enter.was ∙ c.enter.ensures.0) ∙ same_answer c.args.tenant c.args.book.now _ in
    let p = err_from_is_err_and c.from_residual.result c.from_residual.ensures.1 in
    (rw (p.1, p.2) answered, c.enter.ensures.1)

pub returns : goal.returns
returns c =
    let answered = ap done_or (sym c.in_ok-enter.was ∙ c.enter.ensures.0) ∙ same_answer c.args.tenant c.args.book.now _ in
    (answered, c.enter.ensures.1)
