-- `product_row::degrees_fields` meets its contract. The invariant: taking what is left of the n fields takes all of them.
-- Assumes nothing.
use mathlib.Core.Path.{◌≡◌, ap, ◌∙◌}
use mathlib.Core.List.{List}
use Prim.Native.Nat.{ℕ, suc, ◌+◌, ◌-◌, ◌≤◌, ◌<◌}
use native.Mathlib.Omega.{arith}
use lib.ListN.{replicate}
use Rattle.std.proofs.Common.{None, Some}
use Rattle.product_row.specs.Fields.{or_blank, is_degrees}
use Rattle.product_row.specs.Row.{Form}
use Rattle.product_row.specs.Taking.{fields_left, taken, taken_all}
use Rattle.product_row.proofs.FieldLists.{more_fields}
use Rattle.product_row.proofs.TakenRows.{left_after, all_next, all_none}
use Rattle.product_row.proofs.degrees_fields.Goals as goal

abbrev form : Form
form = or_blank is_degrees

-- one of the n - i fields that are left is taken
module _ (n i : ℕ) (more : i < n) (line : List ℕ) (place : ℕ) (left : n - i < fields_left line place) where
  forms : replicate (n - i) form ≡ replicate (suc (n - (i + 1))) form
  forms = let count : n - i ≡ suc (n - (i + 1)) = omega arith in ap (λ (k : ℕ). replicate k form) count

  none_taken : None ≡ taken form line place → None ≡ taken_all (replicate (n - i) form) line place
  none_taken none = rw forms (all_none form line place none (replicate (n - (i + 1)) form))

  module _ (r : ℕ) (is : Some r ≡ taken form line place) where
    one_taken : taken_all (replicate (n - (i + 1)) form) line r ≡ taken_all (replicate (n - i) form) line place
    one_taken = rw forms (all_next form line place r is (omega arith) (replicate (n - (i + 1)) form))

    one_fewer : n - (i + 1) < fields_left line r
    one_fewer = omega (arith, left_after form line place r is (omega arith))

all_taken : (n i : ℕ) → n ≤ i → (line : List ℕ) (place : ℕ) → Some place ≡ taken_all (replicate (n - i) form) line place
unfolding taken_all
all_taken n i end line place =
    let none : n - i ≡ 0 = omega arith in
    rw (ap (λ (k : ℕ). replicate k form) none)

pub loop-init : goal.loop-init
loop-init c =
    let args = c.args in
    let none : args.n - 0 ≡ args.n = omega arith in
    (omega (arith, c.requires), ap (λ (k : ℕ). taken_all (replicate k form) args.line.now args.at) none)

pub degrees_or_blank-requires : goal.degrees_or_blank-requires
degrees_or_blank-requires c = more_fields _ _ (omega (arith, c.loop.invariant.0))

pub returns-in_err-place : goal.returns-in_err-place
returns-in_err-place c =
    let inv = c.loop.invariant in
    c.from_residual.ensures ∙ none_taken _ _ c.loop-test.true _ _ inv.0 c.in_err-place.ensures ∙ inv.1

pub loop-preserved : goal.loop-preserved
loop-preserved c =
    let inv = c.loop.invariant in
    let more = c.loop-test.true in
    (one_fewer _ _ more _ _ inv.0 _ c.in_ok-place.ensures, one_taken _ _ more _ _ inv.0 _ c.in_ok-place.ensures ∙ inv.1)

pub returns : goal.returns
returns c = all_taken _ _ c.loop-test.false _ _ ∙ c.loop.invariant.1
