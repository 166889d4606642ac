-- How long the large output is: a search would write it out.
use Rattle.std.proofs.Common.{ℕ, sym}
use Rattle.std.proofs.lemmas.List.{length-replicate}
use Rattle.look_through.proofs.write_any.Goals as goal

pub slice_bounds-write_report-end : goal.slice_bounds-write_report-end
slice_bounds-write_report-end g c = sym (length-replicate {A = ℕ} 600000 0)
