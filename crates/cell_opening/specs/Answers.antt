-- What opening answers, and the lent output afterwards.
use Rattle.std.specs.Prelude.{List, ◌++◌, ℕ, length, drop, Result, Ok, Err}
use Rattle.forms.specs.declared.refusals.Refusal.{Refusal}
use Rattle.cell_opening.specs.Opening.{Opened, opened, refused}
use Rattle.cell_opening.specs.declared.OpenedFile.{OpenedFile}

-- how long the text is, and which key was taken; or the refusal
abbrev pub file_answer : Opened → Result OpenedFile Refusal
file_answer (opened key t) = Ok (record { length = length t; key = key })
file_answer (refused r) = Err r

-- the lent output afterwards: the text at its start and nothing else, or as it was
abbrev pub file_lent : Opened → List ℕ → List ℕ
file_lent (opened key t) out = t ++ drop (length t) out
file_lent (refused r) out = out

-- what the answer hands out; nothing where it is refused
abbrev pub file_opened : Result OpenedFile Refusal → OpenedFile
file_opened (Ok f) = f
file_opened (Err r) = record { length = 0; key = 0 }
