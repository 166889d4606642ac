-- Taking field after field: that they are of their forms, and which fields are left.
-- Assumes nothing.
use mathlib.Core.Path.{◌≡◌, refl, sym, ap, ◌∙◌}
use mathlib.Core.Bool.{true, false}
use mathlib.Core.List.{List, [], ◌∷◌, ◌++◌}
use Prim.Native.Nat.{ℕ, suc, ◌+◌, ◌≤◌, ◌<◌}
use native.Mathlib.Nat.{zero-add, suc-add}
use native.Mathlib.Omega.{arith}
use lib.ListN.{length, drop}
use Rattle.std.proofs.Common.{None, Some}
use Rattle.octets.proofs.Every.{either}
use Rattle.product_row.specs.Fields.{fields_of}
use Rattle.product_row.specs.Row.{Form, fits, field_after}
use Rattle.product_row.specs.Taking.{field_ends, field_at, fields_left, taken, taken_all}
use Rattle.product_row.proofs.FieldLists.{next-fields, more_fields, one_less}
use Rattle.product_row.proofs.TakenFields.{taken_says, none_says}

-- a field of a form, of two or more that were left
module _ (form : Form) (line : List ℕ) (at : ℕ) where
  -- it was taken
  module _ (r : ℕ) (is : Some r ≡ taken form line at) (two : 2 ≤ fields_left line at) where
    ended : field_ends line at < length line
    ended = more_fields line at two

    pub of-form : form (field_at line at) ≡ true
    of-form = (taken_says form line at r is).0

    place : r ≡ suc (field_ends line at)
    place = (taken_says form line at r is).1

    pub left_after : fields_left line at ≡ suc (fields_left line r)
    left_after = one_less line at ended ∙ ap (λ (n : ℕ). suc (fields_left line n)) (sym place)

    pub place_within : r ≤ length line
    place_within = omega (arith, place, ended)

    fields-after : fields_of (drop at line) ≡ field_at line at ∷ fields_of (drop r line)
    fields-after = next-fields line at ended ∙ ap (λ (n : ℕ). field_at line at ∷ fields_of (drop n line)) (sym place)

    pub all_next : (forms : List Form) → taken_all forms line r ≡ taken_all (form ∷ forms) line at
    unfolding taken_all
    all_next forms = rw (of-form, place)

    pub fits_next : (forms : List Form) → fits forms (fields_of (drop r line)) ≡ fits (form ∷ forms) (fields_of (drop at line))
    unfolding fits
    fits_next forms = rw (fields-after, of-form)

    pub field-here : field_after 0 (fields_of (drop at line)) ≡ field_at line at
    unfolding field_after
    field-here = rw fields-after

    pub field-after : (n : ℕ) → field_after (suc n) (fields_of (drop at line)) ≡ field_after n (fields_of (drop r line))
    unfolding field_after
    field-after n = rw fields-after

  -- it is not of the form
  module _ (none : None ≡ taken form line at) where
    pub all_none : (forms : List Form) → None ≡ taken_all (form ∷ forms) line at
    unfolding taken_all
    all_none forms = rw (none_says form line at none)

    pub fits-none : 2 ≤ fields_left line at → (forms : List Form) → false ≡ fits (form ∷ forms) (fields_of (drop at line))
    unfolding fits
    fits-none two forms = rw (next-fields line at (more_fields line at two), none_says form line at none)

-- the last of them
pub all_one : (form : Form) (line : List ℕ) (at : ℕ) → taken form line at ≡ taken_all (form ∷ []) line at
unfolding taken taken_all
all_one form line at = refl

-- what is left after several
pub record After (forms more : List Form) (line : List ℕ) (at r : ℕ) : Type 0 where
  pub fitting : fits (forms ++ more) (fields_of (drop at line)) ≡ fits more (fields_of (drop r line))
  pub joined : taken_all (forms ++ more) line at ≡ taken_all more line r
  pub skipped : (n : ℕ) → field_after (length forms + n) (fields_of (drop at line)) ≡ field_after n (fields_of (drop r line))
  pub left : fields_left line at ≡ length forms + fields_left line r

module _ (line : List ℕ) (more : List Form) where
  -- one field of its form, before others
  module _ (form : Form) (forms : List Form) (at : ℕ) (ended : field_ends line at < length line) (good : form (field_at line at) ≡ true) where
    next : ℕ
    next = suc (field_ends line at)

    fits-first : fits ((form ∷ forms) ++ more) (fields_of (drop at line)) ≡ fits (forms ++ more) (fields_of (drop next line))
    unfolding fits next
    fits-first = rw (next-fields line at ended, good)

    first-skipped : (n : ℕ) → field_after (length (form ∷ forms) + n) (fields_of (drop at line)) ≡ field_after (length forms + n) (fields_of (drop next line))
    unfolding field_after next
    first-skipped n = rw (suc-add, next-fields line at ended)

    one-before : (r : ℕ) → After forms more line next r → After (form ∷ forms) more line at r
    unfolding taken_all next
    one-before r rest =
        record {
          fitting = fits-first ∙ rest.fitting;
          joined = rw good rest.joined;
          skipped = λ n. first-skipped n ∙ rest.skipped n;
          left = omega (arith, one_less line at ended, rest.left);
        }

  pub all_after : (forms : List Form) (at r : ℕ) → Some r ≡ taken_all forms line at → length forms < fields_left line at → After forms more line at r
  unfolding taken_all next
  all_after [] at r is enough =
      let here : r ≡ at = cc in
      rw here (record { fitting = refl; joined = refl; skipped = λ n. rw zero-add; left = omega arith })
  all_after (form ∷ forms) at r is enough =
      let ended = more_fields line at (omega arith) in
      let one = one_less line at ended in
      either (form (field_at line at))
      (λ good. one-before form forms at ended good r (all_after forms (suc (field_ends line at)) r (rw good at is) (omega arith)))
      (λ bad. let none = rw bad at is in cc)

  -- one of them is not of its form
  pub none_fits : (forms : List Form) (at : ℕ) → length forms < fields_left line at → None ≡ taken_all forms line at
      → false ≡ fits (forms ++ more) (fields_of (drop at line))
  unfolding taken_all fits
  none_fits [] at enough none = cc
  none_fits (form ∷ forms) at enough none =
      let ended = more_fields line at (omega arith) in
      let one = one_less line at ended in
      either (form (field_at line at))
      (λ good. rw (next-fields line at ended, good) (none_fits forms (suc (field_ends line at)) (omega arith) (rw good at none)))
      (λ bad. rw (next-fields line at ended, bad))

  pub none_joined : (forms : List Form) (at : ℕ) → None ≡ taken_all forms line at → None ≡ taken_all (forms ++ more) line at
  unfolding taken_all
  none_joined [] at none = cc
  none_joined (form ∷ forms) at none =
      either (form (field_at line at))
      (λ good. rw good (none_joined forms (suc (field_ends line at)) (rw good at none)))
      (λ bad. rw bad)

-- what the check is given of fields taken in their order
pub ruleset taking_laws = (more_fields, left_after, all_next, all_none, all_one)
