-- What reading by steps promises: places rise until the end, which stays and is reached.
use Rattle.std.specs.Prelude.{◌≡◌, true, false, List, ℕ, zero, suc, ◌-◌, ◌≤◌, ◌<◌, length, Result}
use Rattle.forms.specs.declared.refusals.Refusal.{Refusal}
use Rattle.cell_permit.specs.declared.Record.{Record}
use Rattle.permit_file.specs.File.{cursor, step_by, next_place, is_end}
use Rattle.permit_file.specs.declared.Step.TheVariants.{End}

-- the place after n steps
unfoldable pub place_after : (List ℕ → Result Record Refusal) → List ℕ → ℕ → ℕ → ℕ
place_after read file zero place = place
place_after read file (suc n) place = place_after read file n (next_place (step_by read file place))

-- a step that is not the end goes on to a later place within the file
abbrev pub PlacesRise : Type 0
PlacesRise =
    (read : List ℕ → Result Record Refusal) (file : List ℕ) (place : ℕ) → place ≤ length file → is_end (step_by read file place) ≡ false
    → (place < next_place (step_by read file place)) × (next_place (step_by read file place) ≤ length file)

-- the end answers with its own place
abbrev pub EndStays : Type 0
EndStays =
    (read : List ℕ → Result Record Refusal) (file : List ℕ) (place : ℕ) → is_end (step_by read file place) ≡ true
    → step_by read file place ≡ End (cursor place)

-- the end is reached within as many steps as the file has bytes
abbrev pub FileEnds : Type 0
FileEnds =
    (read : List ℕ → Result Record Refusal) (file : List ℕ) (place : ℕ) → place ≤ length file
    → is_end (step_by read file (place_after read file (length file - place) place)) ≡ true
