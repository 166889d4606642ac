-- `products::header::past` meets its contract.
-- Assumes nothing.
use mathlib.Core.Path.{◌≡◌, sym, ap, ◌∙◌}
use mathlib.Core.List.{List}
use Prim.Native.Nat.{ℕ, ◌+◌, ◌-◌, ◌≤◌}
use lib.ListN.{length, take, drop}
use borrow.Author.Rules.{rules}
use Rattle.file_lines.specs.Lines.{line_ends, line_at, line_found}
use Rattle.file_lines.specs.declared.LineFound.TheVariants.{Line}
use Rattle.file_lines.proofs.Walks.{line_bounds, found_part}
use Rattle.products.specs.Reading.{kind_test}
use Rattle.products.proofs.Headers.{by_test, no_line}
use Rattle.products.proofs.header.past.Goals as goal
use Rattle.products.proofs.header.past.Goals.{In-Line}

-- a line was found
module _ (x : In-Line) where
  abbrev bytes : List ℕ
  bytes = x.args.list.now

  abbrev at : ℕ
  at = x.args.at

  abbrev end : ℕ
  end = x.in-Line.end

  line_found_lem : line_found bytes at ≡ Line end
  line_found_lem = sym x.line_at.ensures ∙ x.in-Line.is

  bounds : (end ≡ line_ends bytes at) × ((at ≤ end) × (end + 2 ≤ length bytes))
  bounds = line_bounds bytes at end line_found_lem

  line_part : take (end - at) (drop at bytes) ≡ line_at bytes at
  line_part = found_part bytes at end line_found_lem

pub slice_bounds-is_of-count : goal.slice_bounds-is_of-count
slice_bounds-is_of-count c = (bounds (goal.at.slice_bounds-is_of-count c).In-Line).1.0

pub slice_bounds-is_of-start : goal.slice_bounds-is_of-start
slice_bounds-is_of-start c = let within = bounds (goal.at.slice_bounds-is_of-start c).In-Line in search rules

pub slice_bounds-is_of-end : goal.slice_bounds-is_of-end
slice_bounds-is_of-end c = let within = bounds (goal.at.slice_bounds-is_of-end c).In-Line in search rules

pub overflow_add-result : goal.overflow_add-result
overflow_add-result c = let within = bounds (goal.at.overflow_add-result c).In-Line in search rules

pub returns-in_default : goal.returns-in_default
returns-in_default c =
    let args = c.args in
    sym (no_line args.kind args.list.now args.at (λ end is. c.in_default.not-Line end (c.line_at.ensures ∙ is)))

pub returns-then-not-is_of : goal.returns-then-not-is_of
returns-then-not-is_of c =
    let line = (goal.at.returns-then-not-is_of c).In-Line in
    let kind = c.args.kind in
    sym
    (by_test kind (bytes line) (at line) (end line) (line_found_lem line)
    ∙ rw (ap (kind_test kind) (sym (line_part line)) ∙ sym c.is_of.ensures ∙ c.if-not-is_of.true))

pub returns : goal.returns
returns c =
    let line = (goal.at.returns c).In-Line in
    let kind = c.args.kind in
    sym
    (by_test kind (bytes line) (at line) (end line) (line_found_lem line)
    ∙ rw (ap (kind_test kind) (sym (line_part line)) ∙ sym c.is_of.ensures ∙ c.if-not-is_of.false))
