-- `products::rows::read` meets its contract: what is known of all rows is carried from line to line.
-- Assumes nothing.
use mathlib.Core.Path.{◌≡◌, sym, ◌∙◌}
use mathlib.Core.List.{List}
use Prim.Native.Nat.{ℕ, ◌+◌, ◌≤◌}
use native.Mathlib.Omega.{arith}
use lib.ListN.{length}
use borrow.Author.Rules.{rules}
use Rattle.file_lines.specs.Lines.{line_ends, line_found}
use Rattle.file_lines.specs.declared.LineFound.TheVariants.{Line}
use Rattle.file_lines.proofs.Walks.{line_bounds}
use Rattle.products.proofs.RowsPassed.{start, ended, ran_out, not_ended, bad-row, next}
use Rattle.products.proofs.rows.read.Goals as goal
use Rattle.products.proofs.rows.read.Goals.{In-Line}

-- a line was found
module _ (x : In-Line) where
  abbrev bytes : List ℕ
  bytes = x.args.list.now

  abbrev end : ℕ
  end = x.in-Line.end

  line_found_lem : line_found bytes x.loop-at.at ≡ Line end
  line_found_lem = sym x.line_at.ensures ∙ x.in-Line.is

  bounds : (end ≡ line_ends bytes x.loop-at.at) × ((x.loop-at.at ≤ end) × (end + 2 ≤ length bytes))
  bounds = line_bounds bytes x.loop-at.at end line_found_lem

pub loop-at-init : goal.loop-at-init
loop-at-init c = start _ _ _

pub slice_bounds-read_row-count : goal.slice_bounds-read_row-count
slice_bounds-read_row-count c = (bounds (goal.at.slice_bounds-read_row-count c).In-Line).1.0

pub slice_bounds-read_row-start : goal.slice_bounds-read_row-start
slice_bounds-read_row-start c = let within = bounds (goal.at.slice_bounds-read_row-start c).In-Line in search rules

pub slice_bounds-read_row-end : goal.slice_bounds-read_row-end
slice_bounds-read_row-end c = let within = bounds (goal.at.slice_bounds-read_row-end c).In-Line in search rules

pub returns-in_err-row-in-Line : goal.returns-in_err-row-in-Line
returns-in_err-row-in-Line c =
    let line = (goal.at.returns-in_err-row-in-Line c).In-Line in
    c.from_residual.ensures ∙ sym (bad-row c.loop-at.invariant (end line) (line_found_lem line) c.in_err-row-in-Line.ensures)

pub overflow_add-at : goal.overflow_add-at
overflow_add-at c = let within = bounds (goal.at.overflow_add-at c).In-Line in search rules

pub loop-at-smaller : goal.loop-at-smaller
loop-at-smaller c =
    let line = (goal.at.loop-at-smaller c).In-Line in
    omega (arith, bounds line)

pub loop-at-preserved : goal.loop-at-preserved
loop-at-preserved c =
    let line = (goal.at.loop-at-preserved c).In-Line in
    rw c.found-own.ensures
    (next c.loop-at.invariant (end line) (line_found_lem line) _ c.in_ok-row-in-Line.ensures)

pub returns-in-Unended : goal.returns-in-Unended
returns-in-Unended c =
    sym (not_ended c.loop-at.invariant (omega arith) (sym c.line_at.ensures ∙ c.in-Unended.is))

pub returns-in-End : goal.returns-in-End
returns-in-End c = sym (ended c.loop-at.invariant (sym c.line_at.ensures ∙ c.in-End.is))

pub returns-after-loop-at : goal.returns-after-loop-at
returns-after-loop-at c = sym (ran_out c.loop-at.invariant (omega arith))
