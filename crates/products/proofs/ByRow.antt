-- A ship's edition and update against a row, and the standing by a cell's own row.
-- Assumes nothing.
use mathlib.Core.Path.{◌≡◌}
use mathlib.Core.Bool.{true, false}
use Prim.Native.Nat.{ℕ}
use borrow.Author.Tests.{ne_eqb}
use Rattle.std.proofs.Common.{Option, None, Some}
use Rattle.product_row.specs.declared.Row.{Row}
use Rattle.products.specs.Answers.{is_behind, standing_by}
use Rattle.products.specs.declared.standings.Standing.TheVariants.{UpToDate, Behind, Cancelled, NotListed}

module _ (own : Option Row) (edition update : ℕ) where
  pub not_listed : own ≡ None → standing_by own edition update ≡ NotListed
  unfolding standing_by
  not_listed e = rw e

  module _ (row : Row) (e : own ≡ Some row) where
    pub cancelled : row.edition ≡ 0 → standing_by own edition update ≡ Cancelled
    unfolding standing_by
    cancelled zero = rw (e, zero)

    module _ (on : row.edition ≡ 0 → ⊥) where
      pub behind : is_behind edition update row ≡ true → standing_by own edition update ≡ Behind
      unfolding standing_by
      behind lower = rw (e, ne_eqb row.edition 0 on, lower)

      pub up_to_date : is_behind edition update row ≡ false → standing_by own edition update ≡ UpToDate
      unfolding standing_by
      up_to_date same = rw (e, ne_eqb row.edition 0 on, same)
