-- What the first six fields of a row give. For contracts inside the crate alone.
use Rattle.std.specs.Prelude.{Option, None, Some, List, ℕ}
use Rattle.text.specs.Characters.{decimal_number}
use Rattle.product_row.specs.Fields.{fields_of}
use Rattle.product_row.specs.Row.{first_forms, field_after}
use Rattle.product_row.specs.Taking.{taken_all}
use Rattle.product_row.specs.declared.Start.{Start}

-- edition and update, and the place after them, where there is one
abbrev pub start_to : List ℕ → Option ℕ → Option Start
start_to line None = None
start_to line (Some next) =
    Some (record {
      edition = decimal_number (field_after 2 (fields_of line));
      update = decimal_number (field_after 4 (fields_of line));
      next = next;
    })

-- the same, where each of the six is of its form
unfoldable pub start_of : List ℕ → Option Start
start_of line = start_to line (taken_all first_forms line 0)
