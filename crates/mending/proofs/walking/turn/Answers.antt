-- `mending::walking::turn` meets its contract: a run of clean records is copied, and any other text looked at.
-- Assumes nothing.
use Prim.Native.Nat.{◌≤◌, ◌<◌}
use native.Mathlib.Omega.{arith}
use borrow.Author.Rules.{rules}
use Rattle.mending.proofs.Turns.{run-begins, run-count, run_fits, run-turned}
use Rattle.mending.proofs.walking.turn.Goals as goal
use Rattle.mending.proofs.walking.turn.Goals.{Else-run-eq0}

-- there are clean records
module _ (on : Else-run-eq0) where
  some : 0 < on.clean_run-run.result.lines
  some = omega (arith, on.if-run-eq0.false)

  begins : on.args.t.place ≤ on.clean_run-run.result.end
  begins =
      run-begins on.args.file.now on.args.t on.args.out.now on.args.list.now on.requires
      on.clean_run-run.result.lines on.clean_run-run.result.end some on.clean_run-run.ensures.1

pub clean_run-run-requires : goal.clean_run-run-requires
clean_run-run-requires c =
    (c.requires.within, c.requires.short)

pub slice_bounds-put_text-count : goal.slice_bounds-put_text-count
slice_bounds-put_text-count c = begins (goal.at.slice_bounds-put_text-count c).Else-run-eq0

pub slice_bounds-put_text-start : goal.slice_bounds-put_text-start
slice_bounds-put_text-start c =
    let h = begins (goal.at.slice_bounds-put_text-start c).Else-run-eq0 in
    let e = c.clean_run-run.ensures.0 in
    search rules

pub slice_bounds-put_text-end : goal.slice_bounds-put_text-end
slice_bounds-put_text-end c =
    let h = begins (goal.at.slice_bounds-put_text-end c).Else-run-eq0 in
    let e = c.clean_run-run.ensures.0 in
    search rules

pub overflow_add-result : goal.overflow_add-result
overflow_add-result c =
    let on = (goal.at.overflow_add-result c).Else-run-eq0 in
    let args = c.args in
    record {
      fits =
          run-count args.file.now args.t args.out.now args.list.now c.requires
          c.clean_run-run.result.lines c.clean_run-run.result.end (some on) c.clean_run-run.ensures.1;
    }

pub overflow_sub-result : goal.overflow_sub-result
overflow_sub-result c = begins (goal.at.overflow_sub-result c).Else-run-eq0

pub overflow_add-result-2 : goal.overflow_add-result-2
overflow_add-result-2 c =
    let on = (goal.at.overflow_add-result-2 c).Else-run-eq0 in
    let args = c.args in
    record {
      fits =
          run_fits args.file.now args.t args.out.now args.list.now c.requires
          c.clean_run-run.result.lines c.clean_run-run.result.end (some on) c.clean_run-run.ensures.1;
    }

pub returns : goal.returns
returns c =
    let on = (goal.at.returns c).Else-run-eq0 in
    let args = c.args in
    run-turned args.file.now args.t args.out.now args.list.now c.requires
    c.clean_run-run.result.lines c.clean_run-run.result.end (some on) c.clean_run-run.ensures.1
    c.put_text.new.out c.put_text.ensures
