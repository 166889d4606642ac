-- How the starting tables come into a key's words: for contracts inside the crate alone.
use Rattle.std.specs.Prelude.{◌≡◌, List, ℕ}
use Rattle.std.proofs.lemmas.List.Edits.{sets}

-- after is before with the table's words put over it from a place on
pub record Overlaid (before : List ℕ) (at : ℕ) (table after : List ℕ) : Type 0 where
  pub same : after ≡ sets before at table
