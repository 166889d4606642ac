-- What cell permits promise: one changed character is refused.
use Rattle.std.specs.Prelude.{◌≡◌, Bool, true, false, List, ℕ, ◌≤◌, ◌<◌, get_or, Result, Ok, Err}
use Rattle.octets.specs.Numbers.{Below}
use Rattle.text.specs.Characters.{raised}
use Rattle.crc32.specs.OneChange.{DifferAt}
use Rattle.forms.specs.declared.refusals.Refusal.{Refusal}
use Rattle.cell_permit.specs.Line.{read_line}
use Rattle.cell_permit.specs.declared.Record.{Record}

-- the line is accepted
abbrev pub is_accepted : Result Record Refusal → Bool
is_accepted (Ok r) = true
is_accepted (Err r) = false

-- an accepted line with any one of its permit's 64 characters changed to any other byte is refused; after cell name and expiry, which are
-- characters 1 to 16, to any byte other than the same letter in the other case
abbrev pub LineGuarded : Type 0
LineGuarded =
    (hw today days i : ℕ) (s t : List ℕ) → Below 256 s → Below 256 t → i < 64 → DifferAt i s t
    → (16 ≤ i → raised (get_or s i 0) ≡ raised (get_or t i 0) → ⊥)
    → is_accepted (read_line hw today days s) ≡ true → is_accepted (read_line hw today days t) ≡ false
