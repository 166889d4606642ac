-- The comment is the part of a line from its place on, and the empty part at the line's start where there is none.
-- Assumes nothing.
use Rattle.std.specs.Prelude.{Some, None}
use Rattle.std.proofs.lemmas.Option.{cond_some}
use mathlib.Core.Path.{◌≡◌, sym, ap, ◌∙◌}
use mathlib.Core.Bool.{true, false}
use mathlib.Core.List.{List}
use Prim.Native.Nat.{ℕ, ◌+◌, ◌-◌}
use native.Mathlib.Omega.{arith}
use lib.ListN.{length, take, drop, length-drop}
use lib.Seq.{take_all, take-length}
use denote.Ref.{Bor}
use Rattle.octets.specs.Places.{point_at}
use Rattle.octets.proofs.Every.{either}
use Rattle.text.specs.Characters.{is_printable}
use Rattle.text.proofs.TextsAt.{all_within}
use Rattle.cell_permit.specs.Line.{is_line, comment_place, comment_of, comment_at, comment_start}
use Rattle.cell_permit.specs.Laws.{CommentWithin, CommentFrom, EmptyComment, CommentStands}
use Rattle.cell_permit.proofs.GoodLine.{good_line}

module _ (line : List ℕ) where
  none_there : comment_at line ≡ None → is_line line ≡ false
  unfolding comment_at
  none_there made = either (is_line line) (λ good. cc (rw good at made)) (λ bad. bad)

  empty_start : comment_at line ≡ None → 0 ≡ comment_start line
  unfolding comment_start
  empty_start made = rw (none_there made)

  module _ (at : ℕ) (made : comment_at line ≡ Some at) where
    there : (is_line line ≡ true) × (comment_place line ≡ at)
    unfolding comment_at
    there = cond_some (is_line line) (comment_place line) at made

    part-start : at ≡ comment_start line
    unfolding comment_start
    part-start = sym there.1 ∙ (rw there.0)

pub place_within : CommentWithin
place_within line at made =
    let good = there line at made in
    omega (
      arith,
      good.1,
      all_within is_printable (length line - comment_place line) line (comment_place line) (good_line line good.0).comment,
    )

pub comment_from : CommentFrom
unfolding comment_of
comment_from line at made = let good = there line at made in rw (good.0, good.1)

pub empty_comment : EmptyComment
unfolding comment_of
empty_comment line made = rw (none_there line made)

pub part-after : (line : List ℕ) (at : ℕ) → comment_at line ≡ Some at → take (length line - at) (drop at line) ≡ comment_of line
part-after line at made =
    take_all (length line - at) (drop at line) (simp length-drop (omega arith)) ∙ comment_from line at made

pub comment_stands : CommentStands
unfolding comment_of comment_start
comment_stands line =
    either (is_line line)
    (λ good. rw good (take-length (drop (comment_place line) line)))
    (λ bad. rw bad)

-- where the part that is handed back points
module _ (line : Bor (List ℕ)) where
  moved : (at : ℕ) → at ≡ comment_start line.now → (line.ref_ptr.0, at + line.ref_ptr.1) ≡ point_at line (comment_start line.now)
  moved at start = let same : at + line.ref_ptr.1 ≡ line.ref_ptr.1 + comment_start line.now = omega arith in ap (λ (k : ℕ). (line.ref_ptr.0, k)) same

  pub empty_point : comment_at line.now ≡ None → (line.ref_ptr.0, 0 + line.ref_ptr.1) ≡ point_at line (comment_start line.now)
  empty_point made = moved 0 (empty_start line.now made)

  pub part_point : (at : ℕ) → comment_at line.now ≡ Some at → (line.ref_ptr.0, at + line.ref_ptr.1) ≡ point_at line (comment_start line.now)
  part_point at made = moved at (part-start line.now at made)
