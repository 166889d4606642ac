-- What follows the permit of a line has the shape, and its fields are read as they stand there.
-- Assumes nothing.
use mathlib.Core.Path.{◌≡◌, refl, ap, ◌∙◌}
use mathlib.Core.Bool.{true, false}
use mathlib.Core.List.{List, [], ◌∷◌, ◌++◌, append-nil}
use Prim.Native.Nat.{ℕ, zero, suc, ◌+◌, ◌-◌, ◌≤◌}
use native.Mathlib.Nat.{le_of_suc-le-suc, not-suc-le-zero}
use native.Mathlib.Omega.{arith}
use borrow.Author.Tests.{le-leb, ne_eqb}
use lib.ListN.{length, get_or}
use Rattle.octets.specs.Every.{all_of}
use Rattle.octets.proofs.Every.{all_first, all_rest}
use Rattle.text.specs.Characters.{is_digit, is_name_character, is_printable}
use Rattle.text.specs.Texts.{all_at}
use Rattle.cell_permit.specs.CellPermit.{comma}
use Rattle.cell_permit.specs.Line.{leading_digits, edition_length, is_tail}
use Rattle.cell_permit.proofs.Along.{From, moved, next, rest_there, length_there, first_there, all_there}

-- digits before something that is none are counted, where there are no more than n
leading : (n : ℕ) (ds : List ℕ) (c : ℕ) (rest : List ℕ) → all_of is_digit ds ≡ true → is_digit c ≡ false → length ds ≤ n
    → leading_digits n (ds ++ (c ∷ rest)) ≡ length ds
unfolding leading_digits
leading zero [] c rest all other h = refl
leading zero (d ∷ ds) c rest all other h = absurd (not-suc-le-zero h)
leading (suc n) [] c rest all other h = rw other
leading (suc n) (d ∷ ds) c rest all other h =
    rw (all_first is_digit d ds all) (ap suc (leading n ds c rest (all_rest is_digit d ds all) other (le_of_suc-le-suc h)))

-- level, edition, Data Server ID and comment, each after its comma
abbrev pub tail_of : ℕ → List ℕ → List ℕ → List ℕ → List ℕ
tail_of level edition server comment = comma ∷ level ∷ comma ∷ (edition ++ (comma ∷ (server ++ (comma ∷ comment))))

module _ {s : List ℕ} (level : ℕ) (edition server comment : List ℕ) (from : From s 64 (tail_of level edition server comment)) where
  at_level : From s 65 (level ∷ comma ∷ (edition ++ (comma ∷ (server ++ (comma ∷ comment)))))
  at_level = next (comma ∷ []) _ from 1 refl

  at_second : From s 66 (comma ∷ (edition ++ (comma ∷ (server ++ (comma ∷ comment)))))
  at_second = next (level ∷ []) _ at_level 1 refl

  pub at_edition : From s 67 (edition ++ (comma ∷ (server ++ (comma ∷ comment))))
  at_edition = next (comma ∷ []) _ at_second 1 refl

  pub level_read : get_or s 65 0 ≡ level
  level_read = first_there _ _ at_level

  module _ (n : ℕ) (size : length edition ≡ n) where
    at-third : From s (67 + n) (comma ∷ (server ++ (comma ∷ comment)))
    at-third = next edition _ at_edition n size

    pub at-server : From s (68 + n) (server ++ (comma ∷ comment))
    at-server = moved _ (next (comma ∷ []) _ at-third 1 refl) (omega arith)

    module _ (two : length server ≡ 2) where
      at-fourth : From s (70 + n) (comma ∷ comment)
      at-fourth = moved _ (next server _ at-server 2 two) (omega arith)

      pub at-comment : From s (71 + n) comment
      at-comment = moved _ (next (comma ∷ []) _ at-fourth 1 refl) (omega arith)

      printable : all_of is_printable comment ≡ true → all_at is_printable (length s - (71 + n)) s (71 + n) ≡ true
      printable all =
          let count : length s - (71 + n) ≡ length comment = omega (arith, length_there comment at-comment) in
          let whole : From s (71 + n) (comment ++ []) = rw append-nil at-comment in
          rw count (all_there comment [] whole (length comment) refl is_printable all)

      module _ (digits : all_of is_digit edition ≡ true) (few : n ≤ 3) where
        pub edition_length_lem : edition_length s ≡ n
        unfolding is_digit
        edition_length_lem =
            ap (leading_digits 3) (rest_there _ at_edition)
            ∙ leading 3 edition comma (server ++ (comma ∷ comment)) digits refl (omega arith)
            ∙ size

        pub tail-right : 48 ≤ level → level ≤ 49 → (get_or s 67 0 ≡ 48 → ⊥) → all_of is_name_character server ≡ true → all_of is_printable comment ≡ true
            → is_tail s ≡ true
        unfolding is_tail
        tail-right low high no_zero named all =
            rw (first_there _ _ from, level_read, le-leb 48 level low, le-leb level 49 high, first_there _ _ at_second, ne_eqb _ _ no_zero, edition_length_lem, first_there _ _ at-third, all_there server _ at-server 2 two is_name_character named, first_there _ _ at-fourth, printable all)
