-- `writing_line::write_line` meets its contract. The output's first 76 bytes are lent on, and those after them stay.
-- Assumes nothing.
use Rattle.std.specs.Array.{IsFirstChunk}
use Rattle.std.specs.Prelude.{Ok}
use mathlib.Core.Path.{sym, ap, ◌∙◌}
use mathlib.Core.List.{List, ◌++◌}
use Prim.Native.Nat.{ℕ}
use borrow.Author.Tests.{le-leb}
use lib.ListN.{length, drop}
use Rattle.cell_permit.specs.CellPermit.{written_line}
use Rattle.writing_line.proofs.LineAnswers.{kept, line_at_start}
use Rattle.writing_line.proofs.write_line.Goals as goal

pub returns-then-not-is_cell : goal.returns-then-not-is_cell
unfolding written_line
returns-then-not-is_cell c =
    let are : IsFirstChunk c.args.out.now c.in-Some.room.now 76 = c.in-Some.ensures.cases in
    let long = le-leb 76 (length c.args.out.now) are.enough in
    let wrong = sym c.is_cell.ensures ∙ c.if-not-is_cell.true in
    (rw (long, wrong), rw (long, wrong) (kept _ _ are))

pub returns-then-not-is_hw_id : goal.returns-then-not-is_hw_id
unfolding written_line
returns-then-not-is_hw_id c =
    let are : IsFirstChunk c.args.out.now c.in-Some.room.now 76 = c.in-Some.ensures.cases in
    let long = le-leb 76 (length c.args.out.now) are.enough in
    let good = sym c.is_cell.ensures ∙ c.if-not-is_cell.false in
    let wrong = sym c.is_hw_id.ensures ∙ c.if-not-is_hw_id.true in
    (rw (long, good, wrong), rw (long, good, wrong) (kept _ _ are))

pub returns : goal.returns
unfolding written_line
returns c =
    let are : IsFirstChunk c.args.out.now c.in-Some.room.now 76 = c.in-Some.ensures.cases in
    let long = le-leb 76 (length c.args.out.now) are.enough in
    let good = sym c.is_cell.ensures ∙ c.if-not-is_cell.false in
    let ship = sym c.is_hw_id.ensures ∙ c.if-not-is_hw_id.false in
    let words = c.ship_words.ensures in
    (rw (long, good, ship, ← words) (ap Ok c.put_line.ensures.0), rw (long, good, ship, ← words) (ap (λ (l : List ℕ). l ++ drop 76 c.args.out.now) c.put_line.ensures.1 ∙ line_at_start _ _ are _ c.args.cell good))
