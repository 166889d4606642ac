-- The first six fields of a row, taken one after another.
-- Assumes nothing.
use mathlib.Core.Path.{◌≡◌, refl, sym, ap, ◌∙◌}
use mathlib.Core.Bool.{true, or-true}
use mathlib.Core.List.{List, [], ◌∷◌}
use Prim.Native.Nat.{ℕ, ◌≤◌, ◌<◌}
use native.Mathlib.Omega.{arith}
use lib.ListN.{length, drop}
use Rattle.std.proofs.Common.{Option, None, Some}
use Rattle.octets.proofs.Every.{either}
use Rattle.text.specs.Characters.{decimal_number}
use Rattle.product_row.specs.Fields.{fields_of, is_blank, or_blank, is_cell_file, is_date_text, is_number}
use Rattle.product_row.specs.Row.{Form, first_forms, field_after}
use Rattle.product_row.specs.Taking.{field_ends, field_at, fields_left, taken, taken_all}
use Rattle.product_row.specs.Starts.{start_to, start_of}
use Rattle.product_row.specs.declared.Start.{Start}
use Rattle.product_row.proofs.FieldLists.{next-fields, more_fields}
use Rattle.product_row.proofs.TakenRows.{After, of-form, left_after, all_next, all_none, field-here, field-after, all_after, none_joined}

-- the forms in their order, after some of them
abbrev named : List Form
named = is_cell_file ∷ is_date_text ∷ []

abbrev sized : List Form
sized = or_blank (is_number 3 0) ∷ or_blank (is_number 6 1) ∷ []

abbrev issued : List Form
issued = or_blank is_date_text ∷ sized

abbrev edited : List Form
edited = is_number 3 0 ∷ issued

module _ (line : List ℕ) where
  start_none : None ≡ taken_all first_forms line 0 → None ≡ start_of line
  unfolding start_of
  start_none none = ap (start_to line) none

  start_some : (edition update next : ℕ) → Some next ≡ taken_all first_forms line 0
      → edition ≡ decimal_number (field_after 2 (fields_of line)) → update ≡ decimal_number (field_after 4 (fields_of line))
      → ◌≡◌ {A = Option Start} (Some (record { edition = edition; update = update; next = next })) (start_of line)
  unfolding start_of
  start_some edition update next is e u = rw (e, u) (ap (start_to line) is)

  -- what a start says
  pub record Begun (start : Start) (place : Option ℕ) : Type 0 where
    pub next_is : Some start.next ≡ place
    pub edition_is : start.edition ≡ decimal_number (field_after 2 (fields_of line))
    pub update_is : start.update ≡ decimal_number (field_after 4 (fields_of line))

  begun_by : (start : Start) (place : Option ℕ) → Some start ≡ start_to line place → Begun start place
  begun_by start None is = cc
  begun_by start (Some next) is =
      let so : ◌≡◌ {A = Start} start (record {
        edition = decimal_number (field_after 2 (fields_of line));
        update = decimal_number (field_after 4 (fields_of line));
        next = next;
      }) = cc in
      rw so (record { next_is = refl; edition_is = refl; update_is = refl })

  pub begun : (start : Start) → Some start ≡ start_of line → Begun start (taken_all first_forms line 0)
  unfolding start_of
  begun start is = begun_by start (taken_all first_forms line 0) is

  none_by : (place : Option ℕ) → None ≡ start_to line place → None ≡ place
  none_by None none = refl
  none_by (Some next) none = cc

  pub not_begun : None ≡ start_of line → None ≡ taken_all first_forms line 0
  unfolding start_of
  not_begun none = none_by (taken_all first_forms line 0) none

-- the place of the edition
module _ (line : List ℕ) (seven : 7 ≤ length (fields_of line)) where
  pub no_name : None ≡ taken_all named line 0 → None ≡ start_of line
  no_name none = start_none line (none_joined line edited named 0 none)

  module _ (e : ℕ) (is-e : Some e ≡ taken_all named line 0) where
    to-e : After named edited line 0 e
    to-e = all_after line edited named 0 e is-e (omega arith)

    left-e : 5 ≤ fields_left line e
    left-e = omega (arith, to-e.left)

    two-e : 2 ≤ fields_left line e
    two-e = omega (arith, left-e)

    pub edition_ended : field_ends line e < length line
    edition_ended = more_fields line e (omega (arith, left-e))

    pub no_edition : None ≡ taken (is_number 3 0) line e → None ≡ start_of line
    no_edition none = start_none line (all_none (is_number 3 0) line e none issued ∙ sym to-e.joined)

    -- of the issue date of the latest update
    module _ (d : ℕ) (is-d : Some d ≡ taken (is_number 3 0) line e) where
      left-d : 4 ≤ fields_left line d
      left-d = omega (arith, left-e, left_after (is_number 3 0) line e d is-d two-e)

      two-d : 2 ≤ fields_left line d
      two-d = omega (arith, left-d)

      pub issued_ended : field_ends line d < length line
      issued_ended = more_fields line d two-d

      pub edition_form : or_blank (is_number 3 0) (field_at line e) ≡ true
      edition_form = rw (of-form (is_number 3 0) line e d is-d two-e) (or-true (is_blank (field_at line e)))

      pub no_issued : None ≡ taken (or_blank is_date_text) line d → None ≡ start_of line
      no_issued none =
          start_none line
          (all_none (or_blank is_date_text) line d none sized
          ∙ all_next (is_number 3 0) line e d is-d two-e issued
          ∙ sym to-e.joined)

      -- of the latest update
      module _ (u : ℕ) (is-u : Some u ≡ taken (or_blank is_date_text) line d) where
        pub left_u : 3 ≤ fields_left line u
        left_u = omega (arith, left-d, left_after (or_blank is_date_text) line d u is-u two-d)

        whole : taken_all sized line u ≡ taken_all first_forms line 0
        whole =
            all_next (or_blank is_date_text) line d u is-u two-d sized
            ∙ all_next (is_number 3 0) line e d is-d two-e issued
            ∙ sym to-e.joined

        pub update_ended : field_ends line u < length line
        update_ended = more_fields line u (omega (arith, left_u))

        pub no_update : None ≡ taken_all sized line u → None ≡ start_of line
        no_update none = start_none line (none ∙ whole)

        -- after the size
        module _ (n : ℕ) (is-n : Some n ≡ taken_all sized line u) where
          pub update_form : or_blank (is_number 3 0) (field_at line u) ≡ true
          unfolding taken_all
          update_form =
              either (or_blank (is_number 3 0) (field_at line u))
              (λ good. good)
              (λ bad. let none = rw bad at is-n in cc)

          update-field : field_after 0 (fields_of (drop u line)) ≡ field_at line u
          unfolding field_after
          update-field = rw (next-fields line u update_ended)

          pub all_six : (edition update : ℕ) → edition ≡ decimal_number (field_at line e) → update ≡ decimal_number (field_at line u)
              → ◌≡◌ {A = Option Start} (Some (record { edition = edition; update = update; next = n })) (start_of line)
          all_six edition update is-edition is-update =
              start_some line edition update n (is-n ∙ whole)
              (is-edition ∙ ap decimal_number (sym (to-e.skipped 0 ∙ field-here (is_number 3 0) line e d is-d two-e)))
              (is-update
              ∙ ap decimal_number
              (sym
              (to-e.skipped 2
              ∙ field-after (is_number 3 0) line e d is-d two-e 1
              ∙ field-after (or_blank is_date_text) line d u is-u two-d 0
              ∙ update-field)))

-- what the check is given of the first six
pub ruleset start_laws = (no_name, edition_ended, no_edition, issued_ended, edition_form, no_issued, left_u, update_ended, no_update, update_form, all_six)
