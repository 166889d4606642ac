-- `product_row::small_numbers` meets its contract.
-- Assumes nothing.
use mathlib.Core.Path.{◌∙◌}
use mathlib.Core.List.{[], ◌∷◌}
use Prim.Native.Nat.{◌≤◌}
use native.Mathlib.Omega.{arith}
use Rattle.product_row.specs.Fields.{or_blank, is_digits, is_number}
use Rattle.product_row.specs.Row.{Form}
use Rattle.product_row.specs.Taking.{fields_left}
use Rattle.product_row.proofs.FieldLists.{more_fields}
use Rattle.product_row.proofs.TakenRows.{left_after, all_next, all_none, all_one}
use Rattle.product_row.proofs.small_numbers.Goals as goal
use Rattle.product_row.proofs.small_numbers.Goals.{In_ok-encryption_at, In_ok-base_at, In_ok-previous_at}

abbrev number : Form
number = or_blank (is_number 2 0)

abbrev digits : Form
digits = or_blank (is_digits 3)

-- the fields left after each
left1 : (x : In_ok-encryption_at) → 4 ≤ fields_left x.args.line.now x.in_ok-encryption_at.encryption_at
left1 x = omega (arith, x.requires, left_after number x.args.line.now _ _ x.in_ok-encryption_at.ensures (omega (arith, x.requires)))

left2 : (x : In_ok-base_at) → 3 ≤ fields_left x.args.line.now x.in_ok-base_at.base_at
left2 x =
    let one = left1 (goal.at.In_ok-base_at x).In_ok-encryption_at in
    omega (arith, one, left_after number x.args.line.now _ _ x.in_ok-base_at.ensures (omega (arith, one)))

left3 : (x : In_ok-previous_at) → 2 ≤ fields_left x.args.line.now x.in_ok-previous_at.previous_at
left3 x =
    let two = left2 (goal.at.In_ok-previous_at x).In_ok-base_at in
    omega (arith, two, left_after digits x.args.line.now _ _ x.in_ok-previous_at.ensures (omega (arith, two)))

pub returns-in_err-base_at : goal.returns-in_err-base_at
returns-in_err-base_at c =
    c.from_residual-in_err-base_at.ensures
    ∙ all_none number _ _ c.in_err-base_at.ensures (digits ∷ digits ∷ [])
    ∙ all_next number _ _ _ c.in_ok-encryption_at.ensures (omega (arith, c.requires)) (number ∷ digits ∷ digits ∷ [])

pub digits_or_blank-requires : goal.digits_or_blank-requires
digits_or_blank-requires c = more_fields _ _ (omega (arith, left2 (goal.at.digits_or_blank-requires c).In_ok-base_at))

pub returns-in_err-previous_at : goal.returns-in_err-previous_at
returns-in_err-previous_at c =
    let one = left1 (goal.at.returns-in_err-previous_at c).In_ok-encryption_at in
    c.from_residual-in_err-previous_at.ensures
    ∙ all_none digits _ _ c.in_err-previous_at.ensures (digits ∷ [])
    ∙ all_next number _ _ _ c.in_ok-base_at.ensures (omega (arith, one)) (digits ∷ digits ∷ [])
    ∙ all_next number _ _ _ c.in_ok-encryption_at.ensures (omega (arith, c.requires)) (number ∷ digits ∷ digits ∷ [])

pub digits_or_blank-requires-2 : goal.digits_or_blank-requires-2
digits_or_blank-requires-2 c = more_fields _ _ (omega (arith, left3 (goal.at.digits_or_blank-requires-2 c).In_ok-previous_at))

pub returns : goal.returns
returns c =
    let one = left1 (goal.at.returns c).In_ok-encryption_at in
    let two = left2 (goal.at.returns c).In_ok-base_at in
    c.digits_or_blank-2.ensures
    ∙ all_one digits _ _
    ∙ all_next digits _ _ _ c.in_ok-previous_at.ensures (omega (arith, two)) (digits ∷ [])
    ∙ all_next number _ _ _ c.in_ok-base_at.ensures (omega (arith, one)) (digits ∷ digits ∷ [])
    ∙ all_next number _ _ _ c.in_ok-encryption_at.ensures (omega (arith, c.requires)) (number ∷ digits ∷ digits ∷ [])
