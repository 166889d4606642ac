-- `forms::identifiers::is_cell_name` meets its contract: a number of 64 bits has eight bytes. Assumes nothing.
use mathlib.Core.Path.{sym, ◌∙◌}
use Prim.Native.Nat.{◌^◌}
use native.Mathlib.Omega.{arith}
use borrow.Author.Tests.{lt-ltb}
use Rattle.forms.specs.Identifiers.{is_text}
use Rattle.forms.proofs.identifiers.is_cell_name.Goals as goal

pub returns : goal.returns
unfolding is_text
returns c =
    let x = c.args.x in
    c.are_name_characters.ensures ∙ sym (rw (lt-ltb x (256 ^ 8) (omega arith)))
