-- What the book promises of last expiries: issue is what it was before there were any, but for 112.
use Rattle.std.specs.Prelude.{◌≡◌, true, List, ℕ, ◌<◌}
use Rattle.std.proofs.Math.Option.{some}
use Rattle.forms.specs.Output.{Output, text, refusal}
use Rattle.forms.specs.Refusals.{by}
use Rattle.forms.specs.declared.refusals.Refusal.{Refusal}
use Rattle.tenants.specs.declared.Held.{Held}
use Rattle.tenants.specs.Cells.{cell_of}
use Rattle.tenants.specs.Version1.{issuing_before}
use Rattle.layout.specs.Layout.{is_book, own_in}
use Rattle.asking.specs.Asking.{issued_from}

-- what issue gave before, by the rule as it stood
abbrev pub issued_before : List ℕ → List ℕ → ℕ → ℕ → ℕ → ℕ → List ℕ → ℕ → Output
issued_before s register t name expiry level permit room = issuing_before t register name expiry level permit room (own_in s t)

-- an expiry is too late for a cell: it has a last expiry, and this is later
abbrev pub TooLate : Held → ℕ → Type 0
TooLate cell expiry = (cell.last ≡ 0 → ⊥) × (cell.last < expiry)

-- what was refused is refused by the same number; a line, which is that of a held cell, is refused by 112 where the expiry is too late for it, and is
-- issued where it is not
abbrev pub LateRefused : Type 0
LateRefused =
    (s register permit : List ℕ) (t name expiry level room : ℕ) → is_book s ≡ true
    → ((r : Refusal) → issued_before s register t name expiry level permit room ≡ refusal r
    → issued_from s register t name expiry level permit room ≡ refusal r)
    × ((line : List ℕ) → issued_before s register t name expiry level permit room ≡ text line
    → (cell : Held) × (cell_of name (own_in s t).cells ≡ some cell)
    × ((TooLate cell expiry → issued_from s register t name expiry level permit room ≡ refusal (by 112))
    × ((TooLate cell expiry → ⊥) → issued_from s register t name expiry level permit room ≡ text line)))
