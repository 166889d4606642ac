-- `mending::walking::clean_length` meets its contract.
-- Assumes nothing.
use Rattle.std.proofs.Common.{◌+◌, ◌-◌, ◌≤◌, length, take, drop, sym, ◌∙◌, arith, length-drop, length-take}
use Rattle.mending.proofs.CleanLines.{plain_within, clean_found}
use Rattle.mending.proofs.walking.clean_length.Goals as goal
use Rattle.mending.proofs.walking.clean_length.Goals.{In_ok-n}

-- it lies within the file
inside : (found : In_ok-n) → (found.args.place + found.in_ok-n.n ≤ length found.args.file.now) × (1 ≤ found.in_ok-n.n)
inside found =
    let file = found.args.file.now in
    let rest = take (length file - found.args.place) (drop found.args.place file) in
    let within = plain_within rest found.in_ok-n.n (sym found.in_ok-n.ensures) in (
      omega (arith, found.requires, within, length-drop found.args.place file, length-take (length file - found.args.place) (drop found.args.place file)),
      omega (arith, within),
    )

pub overflow_add-end : goal.overflow_add-end
overflow_add-end c =
    let found = (goal.at.overflow_add-end c).In_ok-n in
    record { fits = omega (arith, inside found, c.well_formed.0) }

pub overflow_sub-file : goal.overflow_sub-file
overflow_sub-file c = (inside (goal.at.overflow_sub-file c).In_ok-n).0

pub overflow_sub-end : goal.overflow_sub-end
overflow_sub-end c = omega (arith, inside (goal.at.overflow_sub-end c).In_ok-n)

pub returns-then-is_line : goal.returns-then-is_line
returns-then-is_line c =
    let found = (goal.at.returns-then-is_line c).In_ok-n in
    clean_found c.args.file.now c.args.place c.in_ok-n.n
    (sym c.is_line.ensures ∙ c.if-is_line.true)
    (omega (arith, c.if-file-end-lt2.false, inside found))
    c.if-file-end-ne13.false c.if-file-end-ne10.false c.if-file-end-eq32.false
