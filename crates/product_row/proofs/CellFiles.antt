-- Fields that are a cell's file, by the twelve bytes at their place.
-- Assumes nothing.
use mathlib.Core.Path.{◌≡◌, refl, sym, ap, ap₂, ◌∙◌}
use mathlib.Core.Bool.{Bool, true, false, not, ◌&&◌}
use mathlib.Core.List.{List}
use Prim.Native.Nat.{ℕ, ◌+◌, ◌-◌, ◌≤◌, ◌<◌}
use native.Mathlib.Omega.{arith}
use borrow.Author.Tests.{eq-eqb, ne_eqb, eqb-true, eqb-false}
use lib.Dec.{eqb}
use lib.ListN.{length, get_or, drop, length-drop}
use Rattle.std.proofs.Common.{None, Some}
use Rattle.octets.specs.Every.{all_of}
use Rattle.octets.specs.Numbers.{Below, bytes_of}
use Rattle.octets.specs.Places.{number_at}
use Rattle.octets.proofs.Every.{either}
use Rattle.octets.proofs.Places.{bytes_at}
use Rattle.text.specs.Ascii.{ascii}
use Rattle.text.specs.Characters.{is_digit, is_name_character}
use Rattle.text.specs.Texts.{part, same_text, stands_at}
use Rattle.text.proofs.TextsAt.{all_inside}
use Rattle.text.proofs.SameTexts.{same_true}
use Rattle.product_row.specs.Fields.{is_cell_file}
use Rattle.product_row.specs.Taking.{field_length, field_ends, field_at, taken}
use Rattle.product_row.proofs.Cuts.{run_uncut}
use Rattle.product_row.proofs.FieldPlaces.{field_size, part_of_field, same_end, ends_here, comma-there}
use Rattle.product_row.proofs.TakenFields.{taken-after, not_taken}

no_name_comma : is_name_character 44 ≡ false
unfolding is_name_character is_digit
no_name_comma = refl

-- a byte other than a comma
abbrev is_other : ℕ → Bool
is_other c = not (eqb c 44)

module _ (line : List ℕ) (at : ℕ) (ended : field_ends line at < length line) where
  other_size : (field_length line at ≡ 12 → ⊥) → None ≡ taken is_cell_file line at
  unfolding is_cell_file
  other_size other =
      not_taken is_cell_file line at (rw (ne_eqb (length (field_at line at)) 12 (λ e. other (sym (field_size line at) ∙ e))))

  pub too_short : length line - at < 13 → None ≡ taken is_cell_file line at
  unfolding field_ends
  too_short short = other_size (λ e. omega arith)

  pub no_end : (get_or line (at + 12) 0 ≡ 44 → ⊥) → None ≡ taken is_cell_file line at
  unfolding field_ends
  no_end other = other_size (λ e. other (ap (λ (n : ℕ). get_or line (at + n) 0) (sym e) ∙ comma-there line at ended))

  -- the bytes of the field are those at its place
  module _ (size : field_length line at ≡ 12) where
    file-is : is_cell_file (field_at line at) ≡ (all_of is_name_character (part 8 line at) && stands_at (ascii ".000") line (at + 8))
    unfolding is_cell_file
    file-is =
        let here : at + 0 ≡ at = omega arith in
        rw (eq-eqb (length (field_at line at)) 12 (field_size line at ∙ size))
        (ap₂ (λ (a b : Bool). a && b)
        (all_inside is_name_character 8 (field_at line at) 0 (omega (arith, field_size line at))
        ∙ ap (all_of is_name_character) (part_of_field line at 8 0 (omega arith) ∙ ap (part 8 line) here))
        (ap (λ (l : List ℕ). same_text l (ascii ".000")) (part_of_field line at 4 8 (omega arith))))

  by_size : (field_length line at ≡ 12 → is_cell_file (field_at line at) ≡ false) → None ≡ taken is_cell_file line at
  by_size bad =
      either (eqb (field_length line at) 12)
      (λ twelve. not_taken is_cell_file line at (bad (eqb-true (field_length line at) 12 twelve)))
      (λ other. other_size (eqb-false (field_length line at) 12 other))

  -- the name is tested as a number
  module _ (below : Below 256 line) (long : 13 ≤ length line - at) where
    name_is : all_of is_name_character (bytes_of 8 (number_at 8 line at)) ≡ all_of is_name_character (part 8 line at)
    name_is = ap (all_of is_name_character) (bytes_at 8 line at below (omega arith))

    pub no_name : all_of is_name_character (bytes_of 8 (number_at 8 line at)) ≡ false → None ≡ taken is_cell_file line at
    no_name bad = by_size (λ size. file-is size ∙ rw (sym name_is ∙ bad))

    module _ (name : all_of is_name_character (bytes_of 8 (number_at 8 line at)) ≡ true) where
      pub no-ending : stands_at (ascii ".000") line (at + 8) ≡ false → None ≡ taken is_cell_file line at
      no-ending bad = by_size (λ size. file-is size ∙ rw (sym name_is ∙ name, bad))

      module _ (ending : stands_at (ascii ".000") line (at + 8) ≡ true) where
        eight : 8 ≤ field_length line at
        eight = run_uncut 44 is_name_character no_name_comma (drop at line) 8 (simp length-drop (omega arith)) (sym name_is ∙ name)

        four : 4 ≤ field_length line (at + 8)
        unfolding all_of
        four =
            run_uncut 44 is_other refl (drop (at + 8) line) 4 (simp length-drop (omega arith))
            (ap (all_of is_other) (same_true (part 4 line (at + 8)) (ascii ".000") ending))

        twelve : 12 ≤ field_length line at
        unfolding field_ends
        twelve = omega (arith, four, same_end line at ended 8 eight)

        pub is-file : get_or line (at + 12) 0 ≡ 44 → Some (at + 13) ≡ taken is_cell_file line at
        is-file comma =
            let size : field_length line at ≡ 12 = ends_here line at ended 12 twelve comma in
            let sum : at + 13 ≡ at + 12 + 1 = omega arith in
            ap Some sum ∙ taken-after is_cell_file line at 12 size (file-is size ∙ rw (sym name_is ∙ name, ending))
