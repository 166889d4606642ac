-- How long the large list is: a search would write it out.
use Rattle.std.proofs.Common.{ℕ, sym}
use Rattle.std.proofs.lemmas.List.{length-replicate}
use Rattle.mend.proofs.write_any.Goals as goal

pub slice_bounds-write_both-end : goal.slice_bounds-write_both-end
slice_bounds-write_both-end c = sym (length-replicate {A = ℕ} 721000 0)
