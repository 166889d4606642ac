-- `mailed_lines::saying::put_faults` meets its contract: all of them, where they lie within.
-- Assumes nothing.
use Rattle.std.proofs.Common.{◌≡◌, ℕ, ◌+◌, length, sym, ap, ◌∙◌, arith, leb-true}
use Rattle.text.specs.Texts.{width}
use Rattle.mailed_lines.specs.Saying.{faults_said}
use Rattle.mailed_lines.proofs.PutLines.{width_short, not-put, if_small, faults_size}
use Rattle.mailed_lines.proofs.saying.put_faults.Goals as goal
use Rattle.mailed_lines.proofs.saying.put_faults.Goals.{After-length_if-3}

-- how long all are
size : (c : After-length_if-3) → c.length_if.result + c.length_if-2.result + c.length_if-3.result
    ≡ length (faults_said c.args.faults.eol c.args.faults.blank c.args.faults.case c.of-count.result.number)
size c =
    faults_size c.args.faults.eol c.args.faults.blank c.args.faults.case c.of-count.result.number
    c.length_if.result c.length_if-2.result c.length_if-3.result c.length_if.ensures c.length_if-2.ensures c.length_if-3.ensures

pub overflow_add-size : goal.overflow_add-size
overflow_add-size c =
    let f = c.args.faults in
    let n = c.of-count.result.number in
    record {
      fits =
          omega (
            arith,
            width_short n (omega arith),
            if_small f.eol (width n) 5 _ c.length_if.ensures,
            if_small f.blank (width n) 7 _ c.length_if-2.ensures,
          );
    }

pub overflow_add-size-2 : goal.overflow_add-size-2
overflow_add-size-2 c =
    let f = c.args.faults in
    let n = c.of-count.result.number in
    record {
      fits =
          omega (
            arith,
            width_short n (omega arith),
            if_small f.eol (width n) 5 _ c.length_if.ensures,
            if_small f.blank (width n) 7 _ c.length_if-2.ensures,
            if_small f.case (width n) 6 _ c.length_if-3.ensures,
          );
    }

pub put_each-requires : goal.put_each-requires
put_each-requires c =
    omega (
      arith,
      size (goal.at.put_each-requires c).After-length_if-3,
      leb-true _ _ (sym c.lies_within.ensures ∙ c.if-lies_within.true),
    )

-- the count is the number given
module _ (c : After-length_if-3) where
  all : c.length_if.result + c.length_if-2.result + c.length_if-3.result
      ≡ length (faults_said c.args.faults.eol c.args.faults.blank c.args.faults.case c.args.count)
  all = size c ∙ ap (λ (n : ℕ). length (faults_said c.args.faults.eol c.args.faults.blank c.args.faults.case n)) c.of-count.ensures

pub returns-then-lies_within : goal.returns-then-lies_within
returns-then-lies_within c =
    (all (goal.at.returns-then-lies_within c).After-length_if-3, rw (← c.of-count.ensures) c.put_each.ensures)

pub returns-else-lies_within : goal.returns-else-lies_within
returns-else-lies_within c =
    let sized = all (goal.at.returns-else-lies_within c).After-length_if-3 in
    (sized, not-put c.args.at _ _ c.args.list.now sized (sym c.lies_within.ensures ∙ c.if-lies_within.false))
