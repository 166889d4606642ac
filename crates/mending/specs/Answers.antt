-- What a call that mends answers, and the two lent outputs afterwards.
use Rattle.std.specs.Prelude.{List, ◌++◌, ℕ, Result, Ok, Err, length, drop}
use Rattle.forms.specs.declared.refusals.Refusal.{Refusal}
use Rattle.mending.specs.Mending.{Outcome, done, refused}
use Rattle.mending.specs.declared.Lengths.{Lengths}

-- both lengths, or the refusal
abbrev pub answer_of : Outcome → Result Lengths Refusal
answer_of (done m) = Ok (record { file = length m.file; list = length m.list })
answer_of (refused r) = Err r

-- the file's output afterwards: the mended file at its start and nothing else, or as it was
abbrev pub file_lent : Outcome → List ℕ → List ℕ
file_lent (done m) out = m.file ++ drop (length m.file) out
file_lent (refused r) out = out

-- the list's output
abbrev pub list_lent : Outcome → List ℕ → List ℕ
list_lent (done m) out = m.list ++ drop (length m.list) out
list_lent (refused r) out = out
