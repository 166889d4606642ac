-- What the crates above rest on: laws of a line's comment and of its numbers.
use Rattle.std.specs.Prelude.{◌≡◌, List, [], ℕ, ◌≤◌, ◌<◌, length, drop, Some, None}
use Rattle.text.specs.Texts.{part}
use Rattle.cell_permit.specs.Line.{comment_of, comment_at, comment_start, read_with, line_number}

-- a comment begins within its line, or at its end
abbrev pub CommentWithin : Type 0
CommentWithin = (line : List ℕ) (at : ℕ) → comment_at line ≡ Some at → at ≤ length line

-- and from there on the line is the comment
abbrev pub CommentFrom : Type 0
CommentFrom = (line : List ℕ) (at : ℕ) → comment_at line ≡ Some at → drop at line ≡ comment_of line

-- where none begins, the comment is empty
abbrev pub EmptyComment : Type 0
EmptyComment = (line : List ℕ) → comment_at line ≡ None → comment_of line ≡ []

-- the part that is handed back is the comment: so many bytes of the line, from its start on
abbrev pub CommentStands : Type 0
CommentStands = (line : List ℕ) → part (length (comment_of line)) line (comment_start line) ≡ comment_of line

-- reading a line under any words gives a number of two digits at most
abbrev pub TwoDigits : Type 0
TwoDigits = (words : List ℕ) (today days : ℕ) (line : List ℕ) → line_number (read_with words today days line) < 100
