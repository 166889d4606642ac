-- The answers about the book in the form that C sees: at a refusal every field but the number is 0.
use Rattle.std.specs.Prelude.{Bool, ℕ, Result}
use Rattle.forms.specs.Refusals.{refusal_number}
use Rattle.forms.specs.declared.refusals.Refusal.{Refusal}
use Rattle.tenants.specs.Calls.{asked_edition, holding_any}
use Rattle.tenants.specs.declared.Held.{Held}
use Rattle.changing.specs.House.{moved_records}
use Rattle.lambukir.specs.declared.books.EditionAsked.{EditionAsked}
use Rattle.lambukir.specs.declared.books.HeldAsked.{HeldAsked}
use Rattle.lambukir.specs.declared.books.RecordsMoved.{RecordsMoved}
use Rattle.lambukir.specs.Texts.{one_if}

-- a cell that is entered
abbrev pub held_of : ℕ → ℕ → ℕ → ℕ → ℕ → Held
held_of name edition key1 key2 last = record { name = name; edition = edition; key1 = key1; key2 = key2; last = last }

-- an edition that was asked for
abbrev pub edition_asked : Result ℕ Refusal → EditionAsked
edition_asked a = record { edition = asked_edition a; number = refusal_number a }

-- whether any cell of a producer is held: 1 or 0
abbrev pub held_asked : Result Bool Refusal → HeldAsked
held_asked h = record { held = one_if (holding_any h); number = refusal_number h }

-- how many records moved
abbrev pub records_moved : Result ℕ Refusal → RecordsMoved
records_moved m = record { moved = moved_records m; number = refusal_number m }
