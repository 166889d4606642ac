-- A step by what stands at its place: the end, what no CR LF ends, or a line, which is read.
-- Assumes nothing.
use mathlib.Core.Path.{◌≡◌}
use mathlib.Core.List.{List}
use Prim.Native.Nat.{ℕ, ◌+◌, ◌-◌}
use native.Mathlib.Omega.{arith}
use borrow.Author.Tests.{leb-false, le-ltb}
use lib.Dec.{leb, ltb}
use lib.ListN.{length, take, drop}
use Rattle.std.specs.Prelude.{Result}
use Rattle.octets.proofs.Every.{either}
use Rattle.forms.specs.Refusals.{by}
use Rattle.forms.specs.declared.refusals.Refusal.{Refusal}
use Rattle.cell_permit.specs.declared.Record.{Record}
use Rattle.file_lines.specs.Lines.{line_ends, ends_at, line_found}
use Rattle.file_lines.specs.declared.LineFound.{LineFound}
use Rattle.file_lines.specs.declared.LineFound.TheVariants as found
use Rattle.file_lines.proofs.LineEnds.{begins_first}
use Rattle.file_lines.proofs.PartEnds.{line_between, no_end_beyond}
use Rattle.permit_file.specs.File.{cursor, onward, refused_step, step_by}
use Rattle.permit_file.specs.declared.Step.{Step}
use Rattle.permit_file.specs.declared.Step.TheVariants.{End}

module _ (read : List ℕ → Result Record Refusal) (file : List ℕ) (place : ℕ) where
  -- what a step gives, by what stands at its place
  abbrev pub found_step : LineFound → Step
  found_step (found.Line end) = onward (read (take (end - place) (drop place file))) (cursor (end + 2))
  found_step found.Unended = refused_step (cursor (length file)) (by 12)
  found_step found.End = End (cursor place)

  pub by_found : step_by read file place ≡ found_step (line_found file place)
  unfolding step_by line_found
  by_found =
      either (leb place (length file))
      (λ within.
      either (ends_at file place)
      (λ end. rw (within, end))
      (λ on.
      either (ltb (line_ends file place) (length file))
      (λ closed. rw (within, on, closed, line_between file place))
      (λ runs. rw (within, on, runs))))
      (λ past.
      let beyond = leb-false place (length file) past in
      rw (past, no_end_beyond file place beyond, le-ltb (line_ends file place) (length file) (omega (arith, begins_first file place))))
