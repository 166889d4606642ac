-- `report::rows::put_row_end` meets its contract: a blank, the name and LF.
-- Assumes nothing.
use mathlib.Core.Path.{refl, ap, ◌∙◌}
use mathlib.Core.List.{List}
use Prim.Native.Nat.{ℕ, ◌+◌}
use native.Mathlib.Omega.{arith}
use Rattle.text.specs.Ascii.{ascii}
use Rattle.text.specs.Texts.{placed}
use Rattle.report.specs.LookThrough.{name_shown}
use Rattle.report.specs.Turns.{row_end}
use Rattle.report.proofs.Room.{name_length, row_end_length}
use Rattle.report.proofs.Putting.{three_put}
use Rattle.report.proofs.rows.put_row_end.Goals as goal

pub overflow_add-at : goal.overflow_add-at
overflow_add-at c =
    omega (arith, row_end_length c.args.a)

pub overflow_add-at-2 : goal.overflow_add-at-2
overflow_add-at-2 c =
    omega (arith, row_end_length c.args.a)

pub overflow_add-result : goal.overflow_add-result
overflow_add-result c =
    omega (arith, row_end_length c.args.a)

pub returns : goal.returns
unfolding row_end
returns c =
    let at = c.args.at in
    let name = name_shown c.args.a in
    three_put at (ascii " ") name (ascii "\n") c.args.out.now c.requires
    (at + 1) c.put_text.new.out (refl, c.put_text.ensures)
    (at + 9) c.put_text-2.new.out (
      rw name_length (omega arith),
      c.put_text-2.ensures ∙ ap (λ (t : List ℕ). placed (at + 1) t c.put_text.new.out) c.name_of-name.ensures,
    )
    (at + 10) c.put_text-3.new.out (omega arith, c.put_text-3.ensures)
