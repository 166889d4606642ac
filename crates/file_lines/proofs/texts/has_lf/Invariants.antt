-- `file_lines::texts::has_lf` meets its contract. The invariant: none of the bytes so far is LF, or it was found.
-- Assumes nothing.
use Rattle.std.proofs.Common.{◌≡◌, ℕ, ◌<◌, false, get_or}
use Rattle.file_lines.specs.Texts.{is_lf}
use Rattle.file_lines.proofs.texts.has_lf.Given as goal

abbrev pub invariant-loop-c : goal.invariant-loop-c
invariant-loop-c l = l.found ≡ false → (k : ℕ) → k < l.c-index → is_lf (get_or l.block k 0) ≡ false
