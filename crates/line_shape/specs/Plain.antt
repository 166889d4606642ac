-- A line without a comment: its length goes by its edition alone.
use Rattle.std.specs.Prelude.{ℕ, ◌+◌, cond, List, Option, Some, None, length, nat_le}
use Rattle.cell_permit.specs.Line.{edition_length}

-- how long such a line would be that a text begins with; none where the text is shorter than the longest such line, 74 bytes
unfoldable pub plain_length : List ℕ → Option ℕ
plain_length text = cond (nat_le 74 (length text)) (Some (71 + edition_length text)) None
