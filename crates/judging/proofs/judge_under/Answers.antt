-- `judging::judge_under` meets its contract.
-- Assumes nothing.
use mathlib.Core.Path.{◌≡◌, sym, ap, ap₂, ◌∙◌}
use mathlib.Core.List.{List}
use Prim.Native.Nat.{ℕ, ◌+◌, ◌-◌, ◌≤◌}
use native.Mathlib.Omega.{arith}
use Rattle.octets.specs.Numbers.{Below}
use Rattle.layout.specs.Layout.{records_place, book_size, used_length, record_count}
use Rattle.judging.specs.Judging.{parts_from, up_to16}
use Rattle.std.specs.Prelude.{Some}
use Rattle.judging.proofs.PartsSteps.{Whole, parts_leave}
use Rattle.judging.proofs.Tested.{Framed, frame_facts}
use Rattle.judging.proofs.Judgements.{up_to_most, own_next, no_frame, below_wrong, own-wrong, rest-wrong, records-left, all_right}
use Rattle.judging.proofs.judge_under.Goals as goal
use Rattle.judging.proofs.judge_under.Goals.{After-parts_from, After-parts_from-2, After-parts_from-3, After-up_to_16-next, In_ok-first, In_ok-past, In_ok-end}

-- where the frame is right, and the numbers of the stretches' ends are known
abbrev Begun : Type 0
Begun = After-up_to_16-next

abbrev book : Begun → List ℕ
book c = c.args.book.now

abbrev tenant : Begun → ℕ
tenant c = c.args.tenant

bytes : (c : Begun) → Below 256 (book c)
bytes c k = omega (arith, c.type_inv.book k)

framed : (c : Begun) → Framed (book c)
framed c = frame_facts (book c) (sym c.is_frame.ensures ∙ c.if-not-is_frame.false)

used_is : (c : Begun) → c.number32-used.result ≡ used_length (record_count (book c))
used_is c = c.number32-used.ensures ∙ (framed c).form.used

own_is : (c : Begun) → c.up_to_16-own.result ≡ up_to16 (tenant c)
own_is c = c.up_to_16-own.ensures

next_is : (c : Begun) → c.up_to_16-next.result ≡ up_to16 (up_to16 (tenant c) + 1)
next_is c = c.up_to_16-next.ensures ∙ ap (λ (t : ℕ). up_to16 (t + 1)) (own_is c)

abbrev used : Begun → ℕ
used c = used_length (record_count (book c))

abbrev own : Begun → ℕ
own c = up_to16 (tenant c)

abbrev next : Begun → ℕ
next c = up_to16 (own c + 1)

whole : (c : Begun) → Whole (used c) records_place
whole c = record { most = omega arith; fits = omega arith }

-- what each stretch of parts gives
own_told : (c : After-parts_from)
    → parts_from (book (goal.at.After-parts_from c).After-up_to_16-next) (used (goal.at.After-parts_from c).After-up_to_16-next) 0 records_place (own (goal.at.After-parts_from c).After-up_to_16-next) ≡ c.parts_from.result
own_told c =
    let begun = (goal.at.After-parts_from c).After-up_to_16-next in
    let size : c.up_to_16-own.result - 0 ≡ own begun = omega (arith, own_is begun) in
    ap₂ (λ (x m : ℕ). parts_from (book begun) x 0 records_place m) (sym (used_is begun)) (sym size) ∙ sym c.parts_from.ensures

next_told : (c : After-parts_from-2)
    → let begun = (goal.at.After-parts_from-2 c).After-up_to_16-next in
    parts_from (book begun) (used begun) (own begun) c.in_ok-first.first (next begun - own begun) ≡ c.parts_from-2.result
next_told c =
    let begun = (goal.at.After-parts_from-2 c).After-up_to_16-next in
    let at = c.in_ok-first.first in
    ap₂ (λ (x y : ℕ). parts_from (book begun) (used begun) x at (y - x)) (sym (own_is begun)) (sym (next_is begun))
    ∙ ap (λ (x : ℕ). parts_from (book begun) x c.up_to_16-own.result at (c.up_to_16-next.result - c.up_to_16-own.result))
    (sym (used_is begun))
    ∙ sym c.parts_from-2.ensures

rest_told : (c : After-parts_from-3)
    → let begun = (goal.at.After-parts_from-3 c).After-up_to_16-next in
    parts_from (book begun) (used begun) (next begun) c.in_ok-past.past (16 - next begun) ≡ c.parts_from-3.result
rest_told c =
    let begun = (goal.at.After-parts_from-3 c).After-up_to_16-next in
    ap₂ (λ (x y : ℕ). parts_from (book begun) x y c.in_ok-past.past (16 - y)) (sym (used_is begun)) (sym (next_is begun))
    ∙ sym c.parts_from-3.ensures

-- where each ends
to_own : (c : In_ok-first)
    → let begun = (goal.at.In_ok-first c).After-up_to_16-next in parts_from (book begun) (used begun) 0 records_place (own begun) ≡ Some c.in_ok-first.first
to_own c = own_told (goal.at.In_ok-first c).After-parts_from ∙ c.in_ok-first.was

to_next : (c : In_ok-past)
    → let begun = (goal.at.In_ok-past c).After-up_to_16-next in
    parts_from (book begun) (used begun) (own begun) c.in_ok-first.first (next begun - own begun) ≡ Some c.in_ok-past.past
to_next c = next_told (goal.at.In_ok-past c).After-parts_from-2 ∙ c.in_ok-past.was

to_end : (c : In_ok-end)
    → let begun = (goal.at.In_ok-end c).After-up_to_16-next in
    parts_from (book begun) (used begun) (next begun) c.in_ok-past.past (16 - next begun) ≡ Some c.in_ok-end.end
to_end c = rest_told (goal.at.In_ok-end c).After-parts_from-3 ∙ c.in_ok-end.was

-- and that whole records are left there
first_leaves : (c : In_ok-first)
    → (records_place ≤ c.in_ok-first.first) × Whole (used (goal.at.In_ok-first c).After-up_to_16-next) c.in_ok-first.first
first_leaves c = parts_leave _ _ _ _ _ _ (whole (goal.at.In_ok-first c).After-up_to_16-next) (to_own c)

past_leaves : (c : In_ok-past)
    → (c.in_ok-first.first ≤ c.in_ok-past.past)
    × Whole (used (goal.at.In_ok-past c).After-up_to_16-next) c.in_ok-past.past
past_leaves c = parts_leave _ _ _ _ _ _ (first_leaves (goal.at.In_ok-past c).In_ok-first).1 (to_next c)

book_holds : (c : Begun) → used c ≤ book_size
book_holds c = omega (arith, (framed c).form.few)

pub returns-then-not-is_frame : goal.returns-then-not-is_frame
returns-then-not-is_frame c = no_frame _ (λ k. omega (arith, c.type_inv.book k)) _ (sym c.is_frame.ensures ∙ c.if-not-is_frame.true)

pub overflow_add-own : goal.overflow_add-own
overflow_add-own c = omega (arith, c.up_to_16-own.ensures, up_to_most c.args.tenant)

pub parts_from-requires : goal.parts_from-requires
parts_from-requires c =
    let begun = (goal.at.parts_from-requires c).After-up_to_16-next in
    record {
      from_le_to = (omega arith, omega (arith, own_is begun, up_to_most (tenant begun)));
      first_le_used = (omega (arith, used_is begun), omega (arith, used_is begun, book_holds begun, (framed begun).form.size), omega (arith, used_is begun));
    }

pub returns-in_err-first : goal.returns-in_err-first
returns-in_err-first c =
    let begun = (goal.at.returns-in_err-first c).After-up_to_16-next in
    c.from_residual.ensures ∙ below_wrong _ (bytes begun) _ (own begun) (up_to_most (tenant begun)) (own_told (goal.at.returns-in_err-first c).After-parts_from ∙ c.in_err-first.was)

pub parts_from-requires-2 : goal.parts_from-requires-2
parts_from-requires-2 c =
    let begun = (goal.at.parts_from-requires-2 c).After-up_to_16-next in
    let left = (first_leaves (goal.at.parts_from-requires-2 c).In_ok-first).1 in record { from_le_to = (omega (arith, own_is begun, next_is begun, own_next (tenant begun)), omega (arith, next_is begun, up_to_most (own begun + 1))); first_le_used = (omega (arith, used_is begun, left.most), omega (arith, used_is begun, book_holds begun, (framed begun).form.size), omega (arith, used_is begun, left.fits)) }

pub returns-in_err-past : goal.returns-in_err-past
returns-in_err-past c =
    let first = (goal.at.returns-in_err-past c).In_ok-first in
    c.from_residual-in_err-past.ensures ∙ own-wrong _ (bytes (goal.at.returns-in_err-past c).After-up_to_16-next) _ _ (to_own first) (next_told (goal.at.returns-in_err-past c).After-parts_from-2 ∙ c.in_err-past.was)

pub parts_from-requires-3 : goal.parts_from-requires-3
parts_from-requires-3 c =
    let begun = (goal.at.parts_from-requires-3 c).After-up_to_16-next in
    let left = (past_leaves (goal.at.parts_from-requires-3 c).In_ok-past).1 in record { from_le_to = (omega (arith, next_is begun, up_to_most (own begun + 1)), omega arith); first_le_used = (omega (arith, used_is begun, left.most), omega (arith, used_is begun, book_holds begun, (framed begun).form.size), omega (arith, used_is begun, left.fits)) }

pub returns-in_err-end : goal.returns-in_err-end
returns-in_err-end c =
    let past = (goal.at.returns-in_err-end c).In_ok-past in
    let first = (goal.at.returns-in_err-end c).In_ok-first in
    c.from_residual-in_err-end.ensures ∙ rest-wrong _ (bytes (goal.at.returns-in_err-end c).After-up_to_16-next) _ _ (to_own first) _ (to_next past) (rest_told (goal.at.returns-in_err-end c).After-parts_from-3 ∙ c.in_err-end.was)

pub returns-then-end-used : goal.returns-then-end-used
returns-then-end-used c =
    let end = (goal.at.returns-then-end-used c).In_ok-end in
    let past = (goal.at.returns-then-end-used c).In_ok-past in
    let first = (goal.at.returns-then-end-used c).In_ok-first in
    let begun = (goal.at.returns-then-end-used c).After-up_to_16-next in
    records-left _ (bytes begun) _ _ (to_own first) _ (to_next past) _ (to_end end) (λ e. c.if-end-used.true (e ∙ sym (used_is begun)))

pub record_at-requires : goal.record_at-requires
record_at-requires c =
    let first = (goal.at.record_at-requires c).In_ok-first in
    let left = first_leaves first in
    (left.0, omega (arith, left.1.most, book_holds (goal.at.record_at-requires c).After-up_to_16-next))

pub record_at-requires-2 : goal.record_at-requires-2
record_at-requires-2 c =
    let past = (goal.at.record_at-requires-2 c).In_ok-past in
    let first = (goal.at.record_at-requires-2 c).In_ok-first in
    let left = past_leaves past in
    (omega (arith, (first_leaves first).0, left.0), omega (arith, left.1.most, book_holds (goal.at.record_at-requires-2 c).After-up_to_16-next))

pub returns : goal.returns
returns c =
    let end = (goal.at.returns c).In_ok-end in
    let past = (goal.at.returns c).In_ok-past in
    let first = (goal.at.returns c).In_ok-first in
    let begun = (goal.at.returns c).After-up_to_16-next in
    all_right _ (bytes begun) _ _ (to_own first) _ (to_next past) _ (to_end end) (framed begun) (c.if-end-used.false ∙ used_is begun)
    _ _ c.record_at.ensures c.record_at-2.ensures
