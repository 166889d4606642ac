-- `cell_opening::open_by` meets its contract: the first key that is right is taken, and nothing is written before it is judged.
use Rattle.std.proofs.Common.{sym, ◌∙◌}
use Rattle.cell_opening.proofs.Openings.{size_fits, first_opened, second_opened, none_opened}
use Rattle.cell_opening.proofs.open_by.Goals as goal

pub put_opened-requires : goal.put_opened-requires
put_opened-requires c =
    let right = sym c.judge.ensures.0 ∙ c.in-Ok.is in
    ((c.requires.0.0, c.requires.1), size_fits _ _ _ _ c.requires.0.0 right)

pub returns-in-Ok : goal.returns-in-Ok
returns-in-Ok c =
    first_opened _ _ _ _ c.requires.0.0 _ _ _ _ (sym c.judge.ensures.0 ∙ c.in-Ok.is) c.judge.ensures.1 c.put_opened.ensures

pub put_opened-requires-in-Ok-judge : goal.put_opened-requires-in-Ok-judge
put_opened-requires-in-Ok-judge c =
    let right = sym c.judge-2.ensures.0 ∙ c.in-Ok-judge.is in
    ((c.requires.0.0, c.requires.1), size_fits _ _ _ _ c.requires.0.0 right)

pub returns-in-Ok-judge : goal.returns-in-Ok-judge
returns-in-Ok-judge c =
    second_opened _ _ _ _ c.requires.0.0 _ (sym c.judge.ensures.0 ∙ c.in-Err.is) _ _ _ _
    (sym c.judge-2.ensures.0 ∙ c.in-Ok-judge.is) c.judge-2.ensures.1 c.put_opened-in-Ok-judge.ensures

pub returns : goal.returns
returns c =
    none_opened _ _ _ _ c.requires.0.0 _ (sym c.judge.ensures.0 ∙ c.in-Err.is) _ _ _
    (sym c.judge-2.ensures.0 ∙ c.in-Err-judge.is) c.neither.ensures
