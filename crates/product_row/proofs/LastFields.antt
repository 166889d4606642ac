-- The last six fields of a row, taken one after another up to the line's end.
-- Assumes nothing.
use mathlib.Core.Path.{◌≡◌, sym, ap, ◌∙◌}
use mathlib.Core.Bool.{false, and-true}
use mathlib.Core.List.{List, [], ◌∷◌}
use Prim.Native.Nat.{ℕ, ◌-◌, ◌≤◌, ◌<◌}
use native.Mathlib.Omega.{arith}
use lib.ListN.{length, drop, length-drop}
use lib.Seq.{take_all}
use Rattle.std.proofs.Common.{None, Some}
use Rattle.octets.specs.Every.{all_of}
use Rattle.text.specs.Characters.{is_printable}
use Rattle.text.specs.Texts.{all_at}
use Rattle.text.proofs.TextsAt.{all_inside}
use Rattle.product_row.specs.Fields.{fields_of, or_blank, is_digits, is_number, is_location}
use Rattle.product_row.specs.Row.{Form, last_forms, fits}
use Rattle.product_row.specs.Taking.{field_ends, fields_left, taken, taken_all}
use Rattle.product_row.proofs.FieldLists.{more_fields, last_field_lem}
use Rattle.product_row.proofs.TakenRows.{After, left_after, place_within, fits_next, fits-none, all_after, none_fits}

abbrev small : List Form
small = or_blank (is_number 2 0) ∷ or_blank (is_number 2 0) ∷ or_blank (is_digits 3) ∷ or_blank (is_digits 3) ∷ []

abbrev located : List Form
located = or_blank is_location ∷ all_of is_printable ∷ []

module _ (line : List ℕ) (at : ℕ) (six : fields_left line at ≡ 6) where
  pub no_small : None ≡ taken_all small line at → false ≡ fits last_forms (fields_of (drop at line))
  no_small none = none_fits line located small at (omega arith) none

  -- the place of the location
  module _ (l : ℕ) (is-l : Some l ≡ taken_all small line at) where
    to-l : After small located line at l
    to-l = all_after line located small at l is-l (omega arith)

    two-l : fields_left line l ≡ 2
    two-l = omega (arith, to-l.left)

    pub location_ended : field_ends line l < length line
    location_ended = more_fields line l (omega (arith, two-l))

    pub no_location : None ≡ taken (or_blank is_location) line l → false ≡ fits last_forms (fields_of (drop at line))
    no_location none = fits-none (or_blank is_location) line l none (omega (arith, two-l)) (all_of is_printable ∷ []) ∙ sym to-l.fitting

    -- and that of the replacements
    module _ (r : ℕ) (is-r : Some r ≡ taken (or_blank is_location) line l) where
      pub replacements_within : r ≤ length line
      replacements_within = place_within (or_blank is_location) line l r is-r (omega (arith, two-l))

      one-r : fields_left line r ≡ 1
      one-r = omega (arith, two-l, left_after (or_blank is_location) line l r is-r (omega (arith, two-l)))

      to_the_end : all_at is_printable (length line - r) line r ≡ all_of is_printable (drop r line)
      to_the_end =
          all_inside is_printable (length line - r) line r (omega (arith, replacements_within))
          ∙ ap (all_of is_printable) (take_all (length line - r) (drop r line) (omega (arith, length-drop r line)))

      alone : fits (all_of is_printable ∷ []) (fields_of (drop r line)) ≡ all_of is_printable (drop r line)
      unfolding fits
      alone = rw (last_field_lem line r one-r) (and-true (all_of is_printable (drop r line)))

      pub then_printable : all_at is_printable (length line - r) line r ≡ fits last_forms (fields_of (drop at line))
      then_printable =
          to_the_end
          ∙ sym alone
          ∙ fits_next (or_blank is_location) line l r is-r (omega (arith, two-l)) (all_of is_printable ∷ [])
          ∙ sym to-l.fitting

-- what the check is given of the last six
pub ruleset last_laws = (no_small, location_ended, no_location, replacements_within, then_printable)
