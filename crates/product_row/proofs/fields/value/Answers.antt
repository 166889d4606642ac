-- `product_row::fields::value` meets its contract: the comma tells how many digits there are.
-- Assumes nothing.
use mathlib.Core.Path.{◌≡◌, sym, ap₂, ◌∙◌}
use mathlib.Core.List.{List}
use Prim.Native.Nat.{ℕ, ◌+◌, ◌*◌, ◌≤◌, ◌<◌}
use native.Mathlib.Omega.{arith}
use lib.ListN.{length}
use Rattle.product_row.specs.Taking.{field_length, field_ends}
use Rattle.product_row.proofs.FieldPlaces.{within, ends_here, goes_on, starts_other}
use Rattle.product_row.proofs.ValueFields.{blank_value, one_value, two_value, three-value, few}
use borrow.Author.Rules.{rules}
use Rattle.product_row.proofs.fields.value.Goals as goal
use Rattle.product_row.proofs.fields.value.Goals.{Else-line-at-eq44, Else-line-at-eq44-2, Else-line-at-eq44-3}

-- one byte at least is no comma
module _ (x : Else-line-at-eq44) where
  abbrev line : List ℕ
  line = x.args.line.now

  abbrev at : ℕ
  at = x.args.at

  ended : field_ends line at < length line
  ended = x.requires.0

  some : 1 ≤ field_length line at
  some = starts_other line at ended x.if-line-at-eq44.false

  second_within : at + 1 < length line
  second_within = within line at ended 1 some

-- two at least
module _ (y : Else-line-at-eq44-2) where
  abbrev first : Else-line-at-eq44
  first = (goal.at.Else-line-at-eq44-2 y).Else-line-at-eq44

  more : 2 ≤ field_length (line first) (at first)
  more = goes_on (line first) (at first) (ended first) 1 (some first) y.if-line-at-eq44-2.false

  third_within : at first + 2 < length (line first)
  third_within = within (line first) (at first) (ended first) 2 more

-- three, and no more
module _ (z : Else-line-at-eq44-3) where
  abbrev second : Else-line-at-eq44-2
  second = (goal.at.Else-line-at-eq44-3 z).Else-line-at-eq44-2

  all_three : field_length (line (first second)) (at (first second)) ≡ 3
  all_three =
      let x = first second in
      let third = goes_on (line x) (at x) (ended x) 2 (more second) z.if-line-at-eq44-3.false in
      omega (arith, few (line x) (at x) (ended x) x.requires.1 x.if-line-at-eq44.false)

pub returns-then-line-at-eq44 : goal.returns-then-line-at-eq44
returns-then-line-at-eq44 c = blank_value _ _ c.requires.0 c.if-line-at-eq44.true

pub overflow_add-at : goal.overflow_add-at
overflow_add-at c = let room = second_within (goal.at.overflow_add-at c).Else-line-at-eq44 in search rules

pub bounds-line-at-3 : goal.bounds-line-at-3
bounds-line-at-3 c = second_within (goal.at.bounds-line-at-3 c).Else-line-at-eq44

pub returns-then-line-at-eq44-2 : goal.returns-then-line-at-eq44-2
returns-then-line-at-eq44-2 c =
    let x = (goal.at.returns-then-line-at-eq44-2 c).Else-line-at-eq44 in
    c.digit_value-one.ensures ∙ sym (one_value (line x) (at x) (ended x) (ends_here (line x) (at x) (ended x) 1 (some x) c.if-line-at-eq44-2.true))

pub overflow_add-at-2 : goal.overflow_add-at-2
overflow_add-at-2 c = let room = second_within (first (goal.at.overflow_add-at-2 c).Else-line-at-eq44-2) in search rules

pub bounds-line-at-4 : goal.bounds-line-at-4
bounds-line-at-4 c = second_within (first (goal.at.bounds-line-at-4 c).Else-line-at-eq44-2)

pub overflow_add-at-3 : goal.overflow_add-at-3
overflow_add-at-3 c = let room = third_within (goal.at.overflow_add-at-3 c).Else-line-at-eq44-2 in search rules

pub bounds-line-at-5 : goal.bounds-line-at-5
bounds-line-at-5 c = third_within (goal.at.bounds-line-at-5 c).Else-line-at-eq44-2

pub returns-then-line-at-eq44-3 : goal.returns-then-line-at-eq44-3
returns-then-line-at-eq44-3 c =
    let y = (goal.at.returns-then-line-at-eq44-3 c).Else-line-at-eq44-2 in
    let x = first y in
    ap₂ (λ (a b : ℕ). a * 10 + b) c.digit_value-one.ensures c.digit_value.ensures
    ∙ sym (two_value (line x) (at x) (ended x) (ends_here (line x) (at x) (ended x) 2 (more y) c.if-line-at-eq44-3.true))

pub overflow_add-at-4 : goal.overflow_add-at-4
overflow_add-at-4 c = let room = third_within (second (goal.at.overflow_add-at-4 c).Else-line-at-eq44-3) in search rules

pub bounds-line-at-6 : goal.bounds-line-at-6
bounds-line-at-6 c = third_within (second (goal.at.bounds-line-at-6 c).Else-line-at-eq44-3)

pub returns : goal.returns
returns c =
    let z = (goal.at.returns c).Else-line-at-eq44-3 in
    let y = second z in
    let x = first y in
    ap₂ (λ (a b : ℕ). a * 10 + b)
    (ap₂ (λ (a b : ℕ). a * 10 + b) c.digit_value-one.ensures c.digit_value.ensures)
    c.digit_value-2.ensures
    ∙ sym (three-value (line x) (at x) (ended x) (all_three z))
