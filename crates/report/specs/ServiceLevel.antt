-- What the totals promise of service levels: soon and expired are subscriptions, and a single purchase that is read is current.
use Rattle.forms.specs.declared.refusals.Refusal.{Refusal}
use Rattle.cell_permit.specs.declared.Record.{Record}
use Rattle.std.specs.Prelude.{◌≡◌, Bool, false, ◌&&◌, List, ℕ, eqb, Err, Ok, Result}
use Rattle.octets.specs.Every.{count_of}
use Rattle.report.specs.LookThrough.{answers_of, is_noticed}

-- a record of this service level
abbrev pub has_level : ℕ → Result Record Refusal → Bool
has_level level (Ok r) = eqb r.level level
has_level level (Err n) = false

-- those that pass one test all pass another: as many pass both
abbrev pub AllAre : (Result Record Refusal → Bool) → (Result Record Refusal → Bool) → List (Result Record Refusal) → Type 0
AllAre one other answers = count_of one answers ≡ count_of (λ a. one a && other a) answers

-- of the totals, soon (20) and expired (15) count only lines of service level 0, and those of service level 1 are all counted as current (0)
abbrev pub CountedByLevel : Type 0
CountedByLevel =
    (input : List ℕ)
    → AllAre (is_noticed 20) (has_level 0) (answers_of input)
    × (AllAre (is_noticed 15) (has_level 0) (answers_of input) × AllAre (has_level 1) (is_noticed 0) (answers_of input))
