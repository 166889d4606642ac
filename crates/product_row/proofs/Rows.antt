-- A row is read: by the number of its fields, its first ones, and the rest.
-- Assumes nothing.
use mathlib.Core.Path.{◌≡◌, sym, ap, ◌∙◌}
use mathlib.Core.Bool.{true, false}
use mathlib.Core.List.{List, ◌++◌}
use Prim.Native.Nat.{ℕ, suc, ◌+◌, ◌-◌, ◌≤◌, ◌<◌}
use native.Mathlib.Omega.{arith}
use borrow.Author.Tests.{le-leb, lt-leb}
use lib.ListN.{length, drop, replicate, length-replicate}
use Rattle.std.proofs.Common.{Option, None, Some}
use Rattle.octets.specs.Places.{number_at}
use Rattle.product_row.specs.Fields.{fields_of, or_blank, is_degrees}
use Rattle.product_row.specs.Row.{Form, first_forms, last_forms, fits, is_row, row_of, read_row}
use Rattle.product_row.specs.Taking.{fields_left, taken_all}
use Rattle.product_row.specs.Starts.{start_of}
use Rattle.product_row.specs.declared.Start.{Start}
use Rattle.product_row.specs.declared.Row.{Row}
use Rattle.product_row.proofs.StartFields.{begun, not_begun}
use Rattle.product_row.proofs.TakenRows.{After, all_after, none_fits}

-- n fields of degrees
abbrev degrees : ℕ → List Form
degrees n = replicate n (or_blank is_degrees)

-- the fields after the first six
module _ (line : List ℕ) (at n : ℕ) (left : fields_left line at ≡ n + 6) where
  enough : length (degrees n) < fields_left line at
  enough = omega (arith, length-replicate n (or_blank is_degrees))

  pub no_degrees : None ≡ taken_all (degrees n) line at → false ≡ fits (degrees n ++ last_forms) (fields_of (drop at line))
  no_degrees none = none_fits line last_forms (degrees n) at enough none

  module _ (r : ℕ) (is : Some r ≡ taken_all (degrees n) line at) where
    passed : After (degrees n) last_forms line at r
    passed = all_after line last_forms (degrees n) at r is enough

    pub last_six : fields_left line r ≡ 6
    last_six = omega (arith, passed.left, length-replicate n (or_blank is_degrees))

    pub then_last : fits last_forms (fields_of (drop r line)) ≡ fits (degrees n ++ last_forms) (fields_of (drop at line))
    then_last = sym passed.fitting

-- a line of n commas
module _ (line : List ℕ) (n : ℕ) (is : suc n ≡ length (fields_of line)) where
  wrong : is_row line ≡ false → None ≡ read_row line
  unfolding read_row
  wrong bad = rw bad

  pub too_few : n < 15 → None ≡ read_row line
  unfolding is_row
  too_few few = wrong (rw (lt-leb 16 (length (fields_of line)) (omega arith)))

  pub too_many : 35 < n → None ≡ read_row line
  unfolding is_row
  too_many many =
      wrong (rw (le-leb 16 (length (fields_of line)) (omega arith), lt-leb (length (fields_of line)) 36 (omega arith)))

  module _ (low : 15 ≤ n) (high : n ≤ 35) where
    rest : List Form
    rest = degrees (n - 11) ++ last_forms

    row_is : is_row line ≡ fits (first_forms ++ rest) (fields_of line)
    unfolding is_row rest
    row_is =
        let count : length (fields_of line) - 12 ≡ n - 11 = omega arith in
        rw (le-leb 16 (length (fields_of line)) (omega arith), le-leb (length (fields_of line)) 36 (omega arith))
        (ap (λ (k : ℕ). fits (first_forms ++ (degrees k ++ last_forms)) (fields_of line)) count)

    pub no_start : None ≡ start_of line → None ≡ read_row line
    no_start none = wrong (row_is ∙ sym (none_fits line rest first_forms 0 (omega arith) (not_begun line none)))

    module _ (start : Start) (is-start : Some start ≡ start_of line) where
      passed-six : After first_forms rest line 0 start.next
      passed-six = all_after line rest first_forms 0 start.next (begun line start is-start).next_is (omega arith)

      pub rest_left : fields_left line start.next ≡ n - 11 + 6
      rest_left = omega (arith, passed-six.left)

      row-so : is_row line ≡ fits (degrees (n - 11) ++ last_forms) (fields_of (drop start.next line))
      unfolding rest
      row-so = row_is ∙ passed-six.fitting

      pub rest_wrong : fits (degrees (n - 11) ++ last_forms) (fields_of (drop start.next line)) ≡ false → None ≡ read_row line
      rest_wrong bad = wrong (row-so ∙ bad)

      pub row_right : fits (degrees (n - 11) ++ last_forms) (fields_of (drop start.next line)) ≡ true
          → (name : ℕ) → name ≡ number_at 8 line 0
          → ◌≡◌ {A = Option Row} (Some (record { name = name; edition = start.edition; update = start.update })) (read_row line)
      unfolding read_row row_of
      row_right good name is_name =
          let says = begun line start is-start in
          rw (row-so ∙ good, is_name, says.edition_is, says.update_is)
