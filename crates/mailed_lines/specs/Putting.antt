-- A list line as it is put. For contracts inside the crate alone.
use Rattle.std.specs.Prelude.{Bool, cond, List, [], ◌++◌, ℕ}
use Rattle.text.specs.Texts.{numeral}

-- a count and what follows it, where there is a fault
unfoldable pub counted_if : Bool → ℕ → List ℕ → List ℕ
counted_if fault count rest = cond fault (numeral count ++ rest) []
