-- What C gets of a comment is the comment.
use Rattle.std.specs.Prelude.{◌≡◌, List, ℕ, take, drop}
use Rattle.cell_permit.specs.Line.{comment_of}
use Rattle.lambukir.specs.Permits.{comment_part}

-- so many bytes of the line as the part has, from its start on, are the comment
abbrev pub PartIsComment : Type 0
PartIsComment = (line : List ℕ) → take (comment_part line).length (drop (comment_part line).start line) ≡ comment_of line
