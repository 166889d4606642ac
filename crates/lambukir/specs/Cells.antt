-- The answers about cell files in the form that C sees: at a refusal every field but the number is 0.
use Rattle.std.specs.Prelude.{Result}
use Rattle.forms.specs.Refusals.{refusal_number}
use Rattle.forms.specs.declared.refusals.Refusal.{Refusal}
use Rattle.cell_file.specs.Answers.{part_done}
use Rattle.cell_file.specs.declared.Part.{Part}
use Rattle.cell_opening.specs.Answers.{file_opened}
use Rattle.cell_opening.specs.declared.OpenedFile.{OpenedFile}
use Rattle.lambukir.specs.declared.cells.PartEnciphered.{PartEnciphered}
use Rattle.lambukir.specs.declared.cells.FileOpened.{FileOpened}

-- a part that was enciphered
abbrev pub part_enciphered : Result Part Refusal → PartEnciphered
part_enciphered w = record {
  length = (part_done w).length;
  carried = (part_done w).carried;
  count = (part_done w).count;
  number = refusal_number w;
}

-- a file that was opened
abbrev pub cell_file_opened : Result OpenedFile Refusal → FileOpened
cell_file_opened f = record { length = (file_opened f).length; key = (file_opened f).key; number = refusal_number f }
