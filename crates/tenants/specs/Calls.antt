-- The calls that a tenant makes, and what each does and answers by the rules.
use Rattle.std.specs.Prelude.{Bool, false, Result, Ok, Err, List, ℕ}
use Rattle.forms.specs.Output.{Output, written_of}
use Rattle.forms.specs.Refusals.{refusal_number}
use Rattle.forms.specs.declared.refusals.Refusal.{Refusal}
use Rattle.cell_permit.specs.Line.{line_number}
use Rattle.cell_permit.specs.declared.Record.{Record}
use Rattle.tenants.specs.declared.Held.{Held}
use Rattle.tenants.specs.Rules.{Own, Change, nothing, change_number, entering, withdrawing, setting_days, asking, asking_producer, issuing, checking}

-- a call with all that is handed in; of an issued line's output, its length
pub data Call : Type 0 where
  enter : (cell : Held) → Call
  withdraw : (name : ℕ) → Call
  set_days : (days : ℕ) → Call
  ask_edition : (name : ℕ) → Call
  ask_producer : (producer : ℕ) → Call
  issue : (register : List ℕ) (name expiry level : ℕ) (permit : List ℕ) (room : ℕ) → Call
  check : (hw today : ℕ) (line : List ℕ) → Call

-- what comes back: a number, an edition, whether any cell is held, an issued line with its bytes, or what a checked line says
pub data Answer : Type 0 where
  number : ℕ → Answer
  edition : Result ℕ Refusal → Answer
  holding : Result Bool Refusal → Answer
  written : Output → Answer
  read : Result Record Refusal → Answer

-- the edition; 0 at a refusal
abbrev pub asked_edition : Result ℕ Refusal → ℕ
asked_edition (Ok e) = e
asked_edition (Err r) = 0

-- whether any is held; no at a refusal
abbrev pub holding_any : Result Bool Refusal → Bool
holding_any (Ok held) = held
holding_any (Err r) = false

-- the number of an answer
abbrev pub answer_number : Answer → ℕ
answer_number (number n) = n
answer_number (edition a) = refusal_number a
answer_number (holding h) = refusal_number h
answer_number (written o) = refusal_number (written_of o)
answer_number (read l) = line_number l

-- what the call of tenant t does to what is its own
abbrev pub change_of : ℕ → Call → Own → Change
change_of t (enter cell) own = entering t cell own
change_of t (withdraw name) own = withdrawing t name own
change_of t (set_days days) own = setting_days t days own
change_of t (ask_edition name) own = nothing
change_of t (ask_producer producer) own = nothing
change_of t (issue register name expiry level permit room) own = nothing
change_of t (check hw today line) own = nothing

-- what it answers
abbrev pub answer_of : ℕ → Call → Own → Answer
answer_of t (enter cell) own = number (change_number (entering t cell own))
answer_of t (withdraw name) own = number (change_number (withdrawing t name own))
answer_of t (set_days days) own = number (change_number (setting_days t days own))
answer_of t (ask_edition name) own = edition (asking t name own)
answer_of t (ask_producer producer) own = holding (asking_producer t producer own)
answer_of t (issue register name expiry level permit room) own = written (issuing t register name expiry level permit room own)
answer_of t (check hw today line) own = read (checking t hw today line own)
