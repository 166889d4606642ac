-- `mending::walking::turn_any` meets its contract.
-- Assumes nothing.
use native.Mathlib.Omega.{arith}
use Rattle.mailed_lines.proofs.CutTexts.{text_ends_within}
use Rattle.mending.proofs.Turns.{count_small, file-fits, list-fits, any-turned}
use Rattle.mending.proofs.walking.turn_any.Goals as goal

pub give-g-requires : goal.give-g-requires
give-g-requires c =
    let args = c.args in
    record { place_in_bounds = (c.requires.within, c.text_ends-end.ensures); count_bound = count_small args.file.now args.t args.out.now args.list.now c.requires }

pub overflow_add-result : goal.overflow_add-result
overflow_add-result c =
    record {
      fits =
          omega (
            arith,
            c.text_ends-end.ensures,
            text_ends_within c.args.file.now c.args.t.place c.requires.within,
            c.requires.short,
          );
    }

pub overflow_add-result-2 : goal.overflow_add-result-2
overflow_add-result-2 c =
    let args = c.args in
    record { fits = count_small args.file.now args.t args.out.now args.list.now c.requires }

pub overflow_add-result-3 : goal.overflow_add-result-3
overflow_add-result-3 c =
    let args = c.args in
    record {
      fits =
          file-fits args.file.now args.t args.out.now args.list.now c.requires c.text_ends-end.result c.text_ends-end.ensures
          c.give-g.result c.give-g.ensures.0;
    }

pub overflow_add-result-4 : goal.overflow_add-result-4
overflow_add-result-4 c =
    let args = c.args in
    record {
      fits =
          list-fits args.file.now args.t args.out.now args.list.now c.requires c.text_ends-end.result c.text_ends-end.ensures
          c.give-g.result c.give-g.ensures.0;
    }

pub returns : goal.returns
returns c =
    let args = c.args in
    any-turned args.file.now args.t args.out.now args.list.now c.requires c.text_ends-end.result c.text_ends-end.ensures
    c.give-g.result c.give-g.ensures.0 c.give-g.new.out c.give-g.new.list c.give-g.ensures.1.0 c.give-g.ensures.1.1
