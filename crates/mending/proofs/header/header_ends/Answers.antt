-- `mending::header::header_ends` meets its contract: three LFs are found, one after the other.
-- Assumes nothing.
use Rattle.std.proofs.Common.{◌+◌, sym, rules}
use Rattle.mending.proofs.HeaderTexts.{ended_within, stop_first, stop-second, stop-third, found-three}
use Rattle.mending.proofs.header.header_ends.Goals as goal

pub returns-in_err-first : goal.returns-in_err-first
returns-in_err-first c =
    let none = stop_first c.args.file.now (sym c.in_err-first.ensures) in
    search rules

pub overflow_add-first : goal.overflow_add-first
overflow_add-first c =
    let h = ended_within c.args.file.now 0 c.in_ok-first.first (sym c.in_ok-first.ensures) in
    search rules

pub returns-in_err-second : goal.returns-in_err-second
returns-in_err-second c =
    let none = stop-second c.args.file.now _ (sym c.in_ok-first.ensures) (sym c.in_err-second.ensures) in
    search rules

pub overflow_add-second : goal.overflow_add-second
overflow_add-second c =
    let h = ended_within c.args.file.now (c.in_ok-first.first + 1) c.in_ok-second.second (sym c.in_ok-second.ensures) in
    search rules

pub returns-in_err-third : goal.returns-in_err-third
returns-in_err-third c =
    let none =
    stop-third c.args.file.now _ (sym c.in_ok-first.ensures) _ (sym c.in_ok-second.ensures) (sym c.in_err-third.ensures) in
    search rules

pub returns : goal.returns
returns c =
    sym
    (found-three c.args.file.now _ (sym c.in_ok-first.ensures) _ (sym c.in_ok-second.ensures) _ (sym c.in_ok-third.ensures))
