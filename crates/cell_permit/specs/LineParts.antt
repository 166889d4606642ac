-- A line's two halves, each tested and taken apart: the permit, and the fields after it. For contracts inside the crate alone.
use Rattle.std.specs.Prelude.{Bool, cond, not, ◌&&◌, List, ℕ, ◌+◌, ◌-◌, eqb, length, get_or, Option, Some, None}
use Rattle.text.specs.Ascii.{byte}
use Rattle.text.specs.Characters.{between, is_name_character, is_printable}
use Rattle.text.specs.Texts.{all_at}
use Rattle.cell_permit.specs.Line.{is_permit, comma_at, is_tail, permit_parts, field_parts}
use Rattle.cell_permit.specs.declared.PermitParts.{PermitParts}
use Rattle.cell_permit.specs.declared.FieldParts.{FieldParts}

-- a permit taken apart
unfoldable pub permit_of : List ℕ → Option PermitParts
permit_of line = cond (is_permit line) (Some (permit_parts line)) None

-- a service level of 0 or 1 between commas, and no zero after them
unfoldable pub is_level_part : List ℕ → Bool
is_level_part line =
    comma_at line 64 && between (byte "0") (byte "1") (get_or line 65 0)
    && comma_at line 66 && not (eqb (get_or line 67 0) (byte "0"))

-- after an edition of n digits: a Data Server ID between commas, and a comment
unfoldable pub is_server_part : List ℕ → ℕ → Bool
is_server_part line n =
    comma_at line (67 + n) && all_at is_name_character 2 line (68 + n) && comma_at line (70 + n)
    && all_at is_printable (length line - (71 + n)) line (71 + n)

-- the fields taken apart
unfoldable pub fields_of : List ℕ → Option FieldParts
fields_of line = cond (is_tail line) (Some (field_parts line)) None
