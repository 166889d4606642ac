-- What the calls answer.
use Rattle.std.specs.Prelude.{List, ◌++◌, ℕ, length, drop, Result, Ok, Err}
use Rattle.octets.specs.Numbers.{bytes_number}
use Rattle.forms.specs.declared.refusals.Refusal.{Refusal}
use Rattle.cell_file.specs.Enciphering.{PartOutput, blocks, refused}
use Rattle.cell_file.specs.declared.Part.{Part}

-- of a part: how many bytes were written, and the number and the count of those that are carried on
abbrev pub part_answer : PartOutput → Result Part Refusal
part_answer (blocks t c) = Ok (record { length = length t; carried = bytes_number c; count = length c })
part_answer (refused r) = Err r

-- the lent output afterwards: the blocks at its start and nothing else, or as it was
abbrev pub part_lent : PartOutput → List ℕ → List ℕ
part_lent (blocks t c) out = t ++ drop (length t) out
part_lent (refused r) out = out

-- what the answer hands out; nothing where it is refused
abbrev pub part_done : Result Part Refusal → Part
part_done (Ok p) = p
part_done (Err r) = record { length = 0; carried = 0; count = 0 }
