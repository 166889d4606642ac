-- What is known of a line that was taken apart.
-- Assumes nothing.
use Rattle.std.specs.Prelude.{Some}
use Rattle.std.proofs.lemmas.Option.{cond_some}
use mathlib.Core.Path.{◌≡◌}
use mathlib.Core.List.{List}
use Prim.Native.Nat.{ℕ, ◌≤◌}
use native.Mathlib.Omega.{arith}
use lib.ListN.{length}
use Rattle.text.specs.Characters.{is_hex}
use Rattle.text.proofs.TextsAt.{all_within}
use Rattle.cell_permit.specs.Line.{is_line, parts_of, shape_of}
use Rattle.cell_permit.specs.declared.Parts.{Parts}
use Rattle.cell_permit.proofs.GoodLine.{good_line}

-- the 48 characters that the check is of lie within a line that has the shape
pub unchecked_within : (line : List ℕ) (p : Parts) → shape_of line ≡ Some p → 48 ≤ length line
unfolding shape_of
unchecked_within line p made =
    omega (arith, all_within is_hex 16 line 48 (good_line line (cond_some (is_line line) (parts_of line) p made).0).check)
