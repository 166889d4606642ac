-- The fields after a permit are wrong where a test fails, and otherwise have the parts that were read.
-- Assumes nothing.
use mathlib.Core.Path.{◌≡◌, refl}
use mathlib.Core.Bool.{Bool, true, ◌&&◌, and_assoc}
use mathlib.Core.List.{List, [], ◌∷◌}
use Prim.Native.Nat.{ℕ, zero, suc, ◌+◌, ◌-◌, ◌^◌, ◌≤◌, ◌<◌}
use native.Mathlib.Nat.{pow-le-pow_right}
use native.Mathlib.Omega.{arith}
use borrow.Author.Tests.{eqb-true, leb-true, leb-false}
use lib.Dec.{leb}
use lib.ListN.{length, get_or, take, drop, get_or-eq_default}
use Rattle.octets.specs.Every.{all_of}
use Rattle.octets.proofs.Every.{and_first, and_second, either, all_more}
use Rattle.text.specs.Characters.{decimal_number, is_digit, is_name_character, is_printable}
use Rattle.text.specs.Texts.{part, all_at}
use Rattle.text.proofs.TextsAt.{all_at_place}
use Rattle.text.proofs.NumbersAt.{decimal_bound}
use Rattle.cell_permit.specs.CellPermit.{comma}
use Rattle.cell_permit.specs.Line.{comma_at, leading_digits, edition_length, is_tail}
use Rattle.cell_permit.specs.LineParts.{is_level_part, is_server_part}

-- a comma stands within the line
pub comma-within : (line : List ℕ) (at : ℕ) → comma_at line at ≡ true → at < length line
comma-within line at here =
    either (leb (suc at) (length line))
    (λ good. leb-true (suc at) (length line) good)
    (λ bad. absurd (omega (arith, eqb-true (get_or line at 0) comma here, get_or-eq_default line 0 {n = at} (omega (arith, leb-false (suc at) (length line) bad)))))

-- the digits that are counted are digits, and no more than asked for
pub leading_all : (n : ℕ) (s : List ℕ) → all_of is_digit (take (leading_digits n s) s) ≡ true
unfolding leading_digits all_of
leading_all zero s = refl
leading_all (suc n) [] = refl
leading_all (suc n) (c ∷ s) =
    either (is_digit c)
    (λ good. rw good (all_more is_digit c (take (leading_digits n s) s) good (leading_all n s)))
    (λ bad. rw bad)

leading_few : (n : ℕ) (s : List ℕ) → leading_digits n s ≤ n
unfolding leading_digits
leading_few zero s = omega arith
leading_few (suc n) [] = omega arith
leading_few (suc n) (c ∷ s) =
    either (is_digit c)
    (λ good. rw good (omega (arith, leading_few n s)))
    (λ bad. rw bad (omega arith))

pub edition_at_most : (line : List ℕ) → edition_length line ≤ 3
edition_at_most line = leading_few 3 (drop 67 line)

pub edition_few : (line : List ℕ) (n : ℕ) → n ≡ edition_length line → n ≤ 3
edition_few line n counted = omega (arith, edition_at_most line)

first_of : (a b c d : Bool) → (a && b && c && d) ≡ true → a ≡ true
first_of a b c d all = and_first a b (and_first (a && b) c (and_first (a && b && c) d all))

second_of : (a b c d : Bool) → (a && b && c && d) ≡ true → b ≡ true
second_of a b c d all = and_second a b (and_first (a && b) c (and_first (a && b && c) d all))

module _ (line : List ℕ) where
  pub tail_parts : is_tail line ≡ (is_level_part line && is_server_part line (edition_length line))
  unfolding is_tail is_level_part is_server_part
  tail_parts = simp and_assoc

  module _ (level : is_level_part line ≡ true) where
    pub level_least : 48 ≤ get_or line 65 0
    unfolding is_level_part
    level_least =
        let at_least_lem = leb 48 (get_or line 65 0) in
        let at_most = leb (get_or line 65 0) 49 in
        leb-true 48 (get_or line 65 0)
        (and_first at_least_lem at_most
        (second_of (comma_at line 64) (at_least_lem && at_most) (comma_at line 66) _ level))

  module _ (n : ℕ) (counted : n ≡ edition_length line) (server : is_server_part line n ≡ true) where
    comma-after : comma_at line (67 + n) ≡ true
    unfolding is_server_part
    comma-after =
        first_of (comma_at line (67 + n)) (all_at is_name_character 2 line (68 + n)) (comma_at line (70 + n))
        (all_at is_printable (length line - (71 + n)) line (71 + n)) server

    -- the edition's bytes are digits
    pub digits_there : all_at is_digit n line 67 ≡ true
    digits_there =
        all_at_place is_digit n line 67 (omega (arith, comma-within line (67 + n) comma-after))
        (rw counted (leading_all 3 (drop 67 line)))

    pub edition_small : decimal_number (part n line 67) < 2 ^ 32
    edition_small =
        omega (arith, decimal_bound n line 67 digits_there, pow-le-pow_right {n = 10} (omega arith) (edition_few line n counted))
