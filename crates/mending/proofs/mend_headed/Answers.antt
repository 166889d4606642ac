-- `mending::mend_headed` meets its contract: 12, then 108 as it was measured, else both texts are written.
-- Assumes nothing.
use mathlib.Core.Path.{◌≡◌, sym, subst, ◌∙◌}
use mathlib.Core.Bool.{true}
use mathlib.Core.List.{List}
use Prim.Native.Nat.{ℕ, ◌+◌, ◌<◌, ◌^◌}
use native.Mathlib.Omega.{arith}
use borrow.Author.Rules.{rules}
use lib.ListN.{length}
use Rattle.mended_lines.specs.declared.Places.{Places}
use Rattle.mending.specs.Mending.{mended_of, is_mended}
use Rattle.mending.specs.Walking.{fits, sizes_of, Walkable}
use Rattle.mending.proofs.HeaderTexts.{ends_rise}
use Rattle.mending.proofs.Mends.{room_of, mends_12, mends_108, header-taken, may-walk, walked}
use Rattle.mending.proofs.mend_headed.Goals as goal
use Rattle.mending.proofs.mend_headed.Goals.{Else-not-has_room, Else-not-is_good}

-- a good header
module _ (on : Else-not-is_good) where
  abbrev file : List ℕ
  file = on.args.file.now

  abbrev out : List ℕ
  out = on.args.out.now

  abbrev list : List ℕ
  list = on.args.list.now

  good : is_mended file ≡ true
  good = sym on.is_good.ensures ∙ on.if-not-is_good.false

  file_short : length file < 2 ^ 63
  file_short = omega (arith, on.well_formed.0)

  out_short : length out < 2 ^ 63
  out_short = omega (arith, on.well_formed.1.1.0)

  list_short : length list < 2 ^ 63
  list_short = omega (arith, on.well_formed.1.1.1.0)

pub returns-then-not-is_good : goal.returns-then-not-is_good
returns-then-not-is_good c =
    let args = c.args in
    mends_12 args.file.now args.out.now args.list.now (sym c.is_good.ensures ∙ c.if-not-is_good.true)

pub has_room-requires : goal.has_room-requires
has_room-requires c =
    let on = (goal.at.has_room-requires c).Else-not-is_good in
    record { file_value = c.requires; file_value_2 = (good on, (out_short on, list_short on)) }

pub returns-then-not-has_room : goal.returns-then-not-has_room
returns-then-not-has_room c =
    let on = (goal.at.returns-then-not-has_room c).Else-not-is_good in
    mends_108 (file on) (out on) (list on) (good on) (sym c.has_room.ensures ∙ c.if-not-has_room.true)

-- where it fits
module _ (fitting : Else-not-has_room) where
  abbrev here : Else-not-is_good
  here = (goal.at.Else-not-has_room fitting).Else-not-is_good

  fit : fits (sizes_of (mended_of (file here))) (room_of (out here) (list here)) ≡ true
  fit = sym fitting.has_room.ensures ∙ fitting.if-not-has_room.false

pub put_header-at-requires : goal.put_header-at-requires
put_header-at-requires c =
    let fitting = (goal.at.put_header-at-requires c).Else-not-has_room in
    let on = here fitting in record {
      file_value = c.requires;
      takes = header-taken (file on) c.args.e c.requires (good on) (out on) (list on) (file_short on) (out_short on) (list_short on) (fit fitting);
    }

pub overflow_add-e : goal.overflow_add-e
overflow_add-e c =
    let rise = ends_rise c.args.file.now c.args.e c.requires in
    search rules

pub walk-requires : goal.walk-requires
walk-requires c =
    let fitting = (goal.at.walk-requires c).Else-not-has_room in
    let on = here fitting in
    let e = c.args.e in
    subst (λ (p : Places). Walkable (file on) (e.third + 1) p (room_of (out on) (list on)) c.put_header-at.new.out c.put_header-at.new.list)
    (sym c.put_header-at.ensures.0)
    (may-walk (file on) e c.requires (good on) (out on) (list on) (file_short on) (out_short on) (list_short on) (fit fitting)
    c.put_header-at.new.out c.put_header-at.new.list c.put_header-at.ensures.1.0 c.put_header-at.ensures.1.1)

pub returns : goal.returns
returns c =
    let fitting = (goal.at.returns c).Else-not-has_room in
    let on = here fitting in
    walked (file on) c.args.e c.requires (good on) (out on) (list on) (file_short on) (out_short on) (list_short on) (fit fitting)
    c.put_header-at.new.out c.put_header-at.new.list c.put_header-at.ensures.1.0 c.put_header-at.ensures.1.1
    c.put_header-at.result c.put_header-at.ensures.0 c.walk.result c.walk.new.out c.walk.new.list c.walk.ensures
