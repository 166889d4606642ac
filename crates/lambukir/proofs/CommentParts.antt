-- The part of a line that C gets is its comment: from where that begins to the line's end, or empty.
-- Assumes nothing.
use mathlib.Core.Path.{◌≡◌, refl, sym, ◌∙◌}
use mathlib.Core.List.{List}
use Prim.Native.Nat.{ℕ, ◌-◌}
use native.Mathlib.Omega.{arith}
use lib.ListN.{length, take, drop, length-drop}
use lib.Seq.{take_all}
use Rattle.std.specs.Prelude.{Option, Some, None}
use Rattle.cell_permit.specs.Line.{comment_of, comment_at}
use Rattle.cell_permit.proofs.Comments.{comment_from, empty_comment}
use Rattle.lambukir.specs.Permits.{part_from}
use Rattle.lambukir.specs.CommentPart.{PartIsComment}

module _ (line : List ℕ) where
  by_place : (p : Option ℕ) → comment_at line ≡ p
      → take (part_from (length line) p).length (drop (part_from (length line) p).start line) ≡ comment_of line
  by_place (Some start) made =
      take_all (length line - start) (drop start line) (simp length-drop (omega arith)) ∙ comment_from line start made
  by_place None made = sym (empty_comment line made)

pub part_is_comment : PartIsComment
part_is_comment line = by_place line (comment_at line) refl
