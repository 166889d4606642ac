-- `products::standing` meets its contract: one law for each answer, in their order.
-- Assumes nothing.
use mathlib.Core.Path.{◌≡◌, sym, ap, ◌∙◌}
use mathlib.Core.Bool.{true}
use mathlib.Core.List.{List}
use Prim.Native.Nat.{ℕ}
use Rattle.std.proofs.Common.{Some, Ok}
use Rattle.std.proofs.lemmas.Result.{err_from_is_err_and}
use Rattle.forms.specs.declared.refusals.Refusal.TheVariants.{Shape}
use Rattle.products.specs.Answers.{is_ships}
use Rattle.products.specs.Reading.{Begins, rows_read}
use Rattle.products.proofs.Answered.{bad_ships, bad_header, bad-rows, in_order, twice, once}
use Rattle.products.proofs.standing.Goals as goal
use Rattle.products.proofs.standing.Goals.{Else-not-is_ships, In_ok-rows}

-- the ship's values are good
module _ (x : Else-not-is_ships) where
  abbrev list : List ℕ
  list = x.args.list.now

  abbrev name : ℕ
  name = x.args.name

  abbrev edition : ℕ
  edition = x.args.edition

  abbrev update : ℕ
  update = x.args.update

  ships : is_ships name edition update ≡ true
  ships = sym x.is_ships.ensures ∙ x.if-not-is_ships.false

pub returns-then-not-is_ships : goal.returns-then-not-is_ships
returns-then-not-is_ships c = sym (bad_ships _ _ _ _ (sym c.is_ships.ensures ∙ c.if-not-is_ships.true))

pub returns-in_err-first : goal.returns-in_err-first
returns-in_err-first c =
    let given = (goal.at.returns-in_err-first c).Else-not-is_ships in
    let none = c.in_err-first.ensures.ok_part in
    let given_back = rw none at c.in_err-first.ensures.value in
    let why : c.in_err-first.field-0.0 ≡ Shape = cc in
    let out = err_from_is_err_and c.from_residual.result c.from_residual.ensures.1 in
    rw (out.1, out.2, why) (sym (bad_header (list given) (name given) (edition given) (update given) (ships given) (rw none at c.rows_begin.ensures)))

pub returns-in_err-rows : goal.returns-in_err-rows
returns-in_err-rows c =
    let given = (goal.at.returns-in_err-rows c).Else-not-is_ships in
    let none = c.in_err-rows.ensures.ok_part in
    let given_back = rw none at c.in_err-rows.ensures.value in
    let why : c.in_err-rows.field-0.0 ≡ Shape = cc in
    let out = err_from_is_err_and c.from_residual-in_err-rows.result c.from_residual-in_err-rows.ensures.1 in
    rw (out.1, out.2, why)
    (sym (bad-rows (list given) (name given) (edition given) (update given) (ships given) _ (rw c.in_ok-first.ensures.ok_part at c.rows_begin.ensures) (sym none ∙ c.read.ensures)))

-- header and rows are good
module _ (x : In_ok-rows) where
  abbrev good : Else-not-is_ships
  good = (goal.at.In_ok-rows x).Else-not-is_ships

  begins : Begins (list good) (Some x.in_ok-first.first)
  begins = rw x.in_ok-first.ensures.ok_part at x.rows_begin.ensures

  rows : Some x.in_ok-rows.rows ≡ rows_read (list good) x.in_ok-first.first (name good)
  rows = sym x.in_ok-rows.ensures.ok_part ∙ x.read.ensures

pub is_repeated-requires : goal.is_repeated-requires
is_repeated-requires c =
    let x = (goal.at.is_repeated-requires c).In_ok-rows in
    let given = good x in
    in_order (list given) (name given) (edition given) (update given) (ships given) _ (begins x) _ (rows x)

pub returns-then-is_repeated : goal.returns-then-is_repeated
returns-then-is_repeated c =
    let x = (goal.at.returns-then-is_repeated c).In_ok-rows in
    let given = good x in
    sym (twice (list given) (name given) (edition given) (update given) (ships given) _ (begins x) _ (rows x)
    (sym c.is_repeated.ensures ∙ c.if-is_repeated.true))

pub returns : goal.returns
returns c =
    let x = (goal.at.returns c).In_ok-rows in
    let given = good x in
    ap Ok c.standing_by.ensures
    ∙ sym (once (list given) (name given) (edition given) (update given) (ships given) _ (begins x) _ (rows x)
    (sym c.is_repeated.ensures ∙ c.if-is_repeated.false))
