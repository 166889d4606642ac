-- `judging::part_from` meets its contract. The invariant: the part is right so far, and which records are left.
-- Assumes nothing.
use mathlib.Core.Path.{◌≡◌, sym, ap, ◌∙◌}
use mathlib.Core.List.{List}
use Prim.Native.Nat.{ℕ, ◌+◌, ◌-◌, ◌≤◌}
use native.Mathlib.Omega.{arith}
use lib.ListN.{length, get_or}
use Rattle.octets.specs.Places.{number_at}
use Rattle.text.specs.Texts.{part}
use Rattle.tenants.specs.Rules.{is_last}
use Rattle.layout.specs.Layout.{record_size}
use Rattle.judging.specs.Judging.{cell_test, spare_of}
use Rattle.judging.proofs.Parts.{part_lent_lem, number_in_part, first_byte}
use Rattle.judging.proofs.RecordTests.{none_known, cell_last, known_next}
use Rattle.judging.proofs.PartSteps.{left_all, left_none, one-within, left_other, left-wrong, left-next}
use Rattle.judging.proofs.part_from.Goals as goal
use Rattle.judging.proofs.part_from.Goals.{After-byte_at, After-is_cell, After-number32, After-number64-name, Else-byte_at-t}

abbrev Read : Type 0
Read = After-byte_at

-- the book, and the place that the loop is at
abbrev book : Read → List ℕ
book c = c.args.book.now

abbrev place : Read → ℕ
place c = c.loop-at.at

inside : (c : Read) → place c + record_size ≤ length (book c)
inside c = omega (arith, one-within _ _ _ _ c.loop-at.invariant.0 c.loop-at-test.true)

-- the part that is lent is the record
lent : (c : Read) → part (place c + record_size - place c) (book c) (place c) ≡ part record_size (book c) (place c)
lent c = part_lent_lem record_size (book c) (place c)

tenant_read : (c : Read) → c.byte_at.result ≡ get_or (book c) (place c) 0
tenant_read c =
    c.byte_at.ensures ∙ ap (λ (p : List ℕ). get_or p 0 0) (lent c) ∙ first_byte record_size (book c) (place c) (inside c) (omega arith)

its : (c : Else-byte_at-t) → get_or (book (goal.at.Else-byte_at-t c).After-byte_at) (place (goal.at.Else-byte_at-t c).After-byte_at) 0 ≡ c.args.t
its c = sym (tenant_read (goal.at.Else-byte_at-t c).After-byte_at) ∙ c.if-byte_at-t.false

tested : (c : After-is_cell)
    → let read = (goal.at.After-is_cell c).After-byte_at in
    c.is_cell.result ≡ cell_test (part record_size (book read) (place read)) c.loop-at.name
tested c =
    let read = (goal.at.After-is_cell c).After-byte_at in
    c.is_cell.ensures ∙ ap (λ (p : List ℕ). cell_test p c.loop-at.name) (lent read)

name_read : (c : After-number64-name)
    → let read = (goal.at.After-number64-name c).After-byte_at in
    c.number64-name.result ≡ number_at 8 (book read) (place read + 1)
name_read c =
    let read = (goal.at.After-number64-name c).After-byte_at in
    c.number64-name.ensures
    ∙ ap (λ (p : List ℕ). number_at 8 p 1) (lent read)
    ∙ number_in_part record_size (book read) (place read) (inside read) 8 1 (omega arith)

last_read : (c : After-number32)
    → let read = (goal.at.After-number32 c).After-byte_at in
    c.number32.result ≡ number_at 4 (part record_size (book read) (place read)) 24
last_read c =
    let read = (goal.at.After-number32 c).After-byte_at in
    c.number32.ensures ∙ ap (λ (p : List ℕ). number_at 4 p 24) (lent read)

pub loop-at-init : goal.loop-at-init
loop-at-init c = (left_all _ _ _ _ (omega arith) (omega arith), none_known)

pub overflow_add-part : goal.overflow_add-part
overflow_add-part c = omega (arith, one-within _ _ _ _ c.loop-at.invariant.0 c.loop-at-test.true)

pub slice_bounds-part-end : goal.slice_bounds-part-end
slice_bounds-part-end c = omega (arith, one-within _ _ _ _ c.loop-at.invariant.0 c.loop-at-test.true)

pub returns-then-byte_at-t : goal.returns-then-byte_at-t
returns-then-byte_at-t c =
    let read = (goal.at.returns-then-byte_at-t c).After-byte_at in
    c.ended.ensures ∙ left_other _ _ _ _ c.loop-at.invariant.0 c.loop-at-test.true (λ e. c.if-byte_at-t.true (tenant_read read ∙ e))

pub is_cell-requires : goal.is_cell-requires
is_cell-requires c = c.loop-at.invariant.1

pub returns-then-not-is_cell : goal.returns-then-not-is_cell
returns-then-not-is_cell c =
    left-wrong _ _ _ _ c.loop-at.invariant.0 c.loop-at-test.true (its (goal.at.returns-then-not-is_cell c).Else-byte_at-t) (sym (tested (goal.at.returns-then-not-is_cell c).After-is_cell) ∙ c.if-not-is_cell.true)

pub overflow_add-at : goal.overflow_add-at
overflow_add-at c = omega (arith, one-within _ _ _ _ c.loop-at.invariant.0 c.loop-at-test.true)

pub loop-at-preserved : goal.loop-at-preserved
loop-at-preserved c =
    let read = (goal.at.loop-at-preserved c).After-byte_at in
    let right = sym (tested (goal.at.loop-at-preserved c).After-is_cell) ∙ c.if-not-is_cell.false in
    let next = left-next _ _ _ _ c.loop-at.invariant.0 c.loop-at-test.true (its (goal.at.loop-at-preserved c).Else-byte_at-t)
    right c.spare_of-spare.result (c.spare_of-spare.ensures ∙ ap spare_of (lent read)) in (
      rw (name_read (goal.at.loop-at-preserved c).After-number64-name) next,
      ap is_last c.last_known-known.ensures
          ∙ known_next _ _ (ap is_last (last_read (goal.at.loop-at-preserved c).After-number32) ∙ cell_last _ _ right) c.loop-at.invariant.1,
    )

pub returns : goal.returns
returns c = c.ended-2.ensures ∙ left_none _ _ _ _ c.loop-at.invariant.0 c.loop-at-test.false
