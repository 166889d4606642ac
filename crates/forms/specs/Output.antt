-- What a call that writes gives: a text at the output's start, or a refusal that writes nothing.
use Rattle.std.specs.Prelude.{◌≡◌, List, [], ◌++◌, ℕ, length, drop, Result, Ok, Err}
use Rattle.octets.specs.NoChoice.{AnswerAndLent}
use Rattle.text.specs.Characters.{raised_text}
use Rattle.forms.specs.Refusals.{refused}
use Rattle.forms.specs.declared.refusals.Refusal.{Refusal}

-- a text, or the refusal
pub data Output : Type 0 where
  text : List ℕ → Output
  refusal : Refusal → Output

-- the answer: the text's length, or the refusal
abbrev pub written_of : Output → Result ℕ Refusal
written_of (text t) = Ok (length t)
written_of (refusal r) = refused r

-- the lent output afterwards: the text at its start and nothing else, or as it was
abbrev pub lent_after : Output → List ℕ → List ℕ
lent_after (text t) out = t ++ drop (length t) out
lent_after (refusal r) out = out

-- the bytes that are written: none where it is refused
abbrev pub bytes_written : Output → List ℕ
bytes_written (text t) = t
bytes_written (refusal r) = []

-- what is written has no small letter: raised, it is the same
abbrev pub InCapitals : Output → Type 0
InCapitals o = raised_text (bytes_written o) ≡ bytes_written o

-- what a call answers and the lent output afterwards are those of what it gives
abbrev pub Answered : Output → List ℕ → Result ℕ Refusal → List ℕ → Type 0
Answered o before answer after = AnswerAndLent (written_of o) (lent_after o before) answer after

-- how many bytes were written, of a line with its CR LF
abbrev pub written_length : Result ℕ Refusal → ℕ
written_length (Ok n) = n
written_length (Err r) = 0
