-- `product_names::block_at` meets its contract. The invariant is `Looked`, which each way round keeps by one of its laws.
-- Assumes nothing.
use Rattle.std.proofs.Common.{◌≡◌, ℕ, ◌+◌, ◌≤◌, List, [], ◌∷◌, length, sym, ap, ◌∙◌, arith}
use Rattle.file_lines.specs.Lines.{line_found}
use Rattle.file_lines.specs.declared.LineFound.TheVariants.{Line}
use Rattle.file_lines.proofs.Walks.{line_bounds}
use Rattle.product_names.specs.Repeats.{names_from}
use Rattle.product_names.proofs.BlockTurns.{begun, name_first, none_beyond, none_left, twice, grown, passed, over, goes_on}
use Rattle.product_names.proofs.block_at.Goals as goal
use Rattle.product_names.proofs.block_at.Goals.{After-number64-name, In-Line, Left-loop-at, else-loop-at-test, then-loop-at-test+in_default}

pub loop-at-init : goal.loop-at-init
loop-at-init c = begun c.args.list.now c.args.place (omega (arith, c.requires))

-- a line was found at the place
module _ (k : In-Line) where
  abbrev list : List ℕ
  list = k.args.list.now

  abbrev at : ℕ
  at = k.loop-at.at

  abbrev end : ℕ
  end = k.in-Line.end

  line : line_found list at ≡ Line end
  line = sym k.line_at.ensures ∙ k.in-Line.is

  bounds : (at ≤ end) × (end + 2 ≤ length list)
  bounds = (line_bounds list at end line).1

-- its name was read
module _ (k : After-number64-name) where
  abbrev name : ℕ
  name = k.number64-name.result

  abbrev known : In-Line
  known = (goal.at.After-number64-name k).In-Line

  first : names_from (list known) (at known) ≡ name ∷ names_from (list known) (end known + 2)
  first =
      name_first (list known) (at known) (end known) (line known)
      ∙ ap (λ (n : ℕ). n ∷ names_from (list known) (end known + 2)) (sym k.number64-name.ensures)

pub slice_bounds-number64-count : goal.slice_bounds-number64-count
slice_bounds-number64-count c = (bounds (goal.at.slice_bounds-number64-count c).In-Line).0

pub slice_bounds-number64-start : goal.slice_bounds-number64-start
slice_bounds-number64-start c = (bounds (goal.at.slice_bounds-number64-start c).In-Line).0

pub slice_bounds-number64-end : goal.slice_bounds-number64-end
slice_bounds-number64-end c = omega (arith, bounds (goal.at.slice_bounds-number64-end c).In-Line)

pub holds-requires : goal.holds-requires
holds-requires c = c.loop-at.invariant.all_marked

pub returns-then-holds : goal.returns-then-holds
returns-then-holds c =
    let read = (goal.at.returns-then-holds c).After-number64-name in
    let now = c.loop-at in
    twice now.invariant (name read) (end (goal.at.returns-then-holds c).In-Line) (first read) (sym c.holds.ensures ∙ c.if-holds.true)

pub overflow_add-at : goal.overflow_add-at
overflow_add-at c = omega (arith, bounds (goal.at.overflow_add-at c).In-Line)

pub loop-at-smaller-then-count-lt-ROWS : goal.loop-at-smaller-then-count-lt-ROWS
loop-at-smaller-then-count-lt-ROWS c = omega (arith, bounds (goal.at.loop-at-smaller-then-count-lt-ROWS c).In-Line)

pub loop-at-preserved-then-count-lt-ROWS : goal.loop-at-preserved-then-count-lt-ROWS
loop-at-preserved-then-count-lt-ROWS c =
    let read = (goal.at.loop-at-preserved-then-count-lt-ROWS c).After-number64-name in
    let Line-known = (goal.at.loop-at-preserved-then-count-lt-ROWS c).In-Line in
    let now = c.loop-at in
    grown now.invariant (name read) (end Line-known) (first read) (sym c.holds.ensures ∙ c.if-holds.false) (bounds Line-known).0 (bounds Line-known).1
    c.mark.new.marks c.mark.ensures c.if-count-lt-ROWS.true

pub loop-at-smaller : goal.loop-at-smaller
loop-at-smaller c = omega (arith, bounds (goal.at.loop-at-smaller c).In-Line)

pub loop-at-preserved : goal.loop-at-preserved
loop-at-preserved c =
    let read = (goal.at.loop-at-preserved c).After-number64-name in
    let Line-known = (goal.at.loop-at-preserved c).In-Line in
    let now = c.loop-at in
    passed now.invariant (name read) (end Line-known) (first read) (sym c.holds.ensures ∙ c.if-holds.false) (bounds Line-known).0 (bounds Line-known).1 c.if-count-lt-ROWS.false

nothing_left : (k : Left-loop-at) → names_from k.args.list.now k.loop-at.at ≡ []
nothing_left k =
    let list = k.args.list.now in
    let at = k.loop-at.at in
    elim k.loop-at-test.branch [
      | else-loop-at-test w ↦ none_beyond list at w.loop-at-test.false
      | then-loop-at-test+in_default w ↦ none_left list at k.loop-at.invariant.within w.line_at.result w.line_at.ensures w.in_default.not-Line
    ]

pub returns-then-at-next : goal.returns-then-at-next
returns-then-at-next c = over c.loop-at.invariant (nothing_left (goal.at.returns-then-at-next c).Left-loop-at) c.requires c.if-at-next.true

pub returns : goal.returns
returns c = goes_on c.loop-at.invariant (nothing_left (goal.at.returns c).Left-loop-at) c.if-at-next.false
