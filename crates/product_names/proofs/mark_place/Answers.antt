-- `product_names::mark_place` meets its contract.
-- Assumes nothing.
use Rattle.std.proofs.Common.{ℕ, ◌/◌, ◌%◌, ap, rules}
use Rattle.product_names.specs.Marking.{mark_place}
use Rattle.product_names.proofs.MarkLaws.{halves_fit}
use Rattle.product_names.proofs.mark_place.Goals as goal

pub overflow_mul-high : goal.overflow_mul-high
overflow_mul-high c = record { fits = halves_fit _ _ (search rules) (search rules) }

pub overflow_mul-low : goal.overflow_mul-low
overflow_mul-low c = record { fits = halves_fit _ _ (search rules) (search rules) }

pub returns : goal.returns
unfolding mark_place
returns c = ap (λ (n : ℕ). n / 262144 % 262144) c.wrapping_add_u64.ensures.value
