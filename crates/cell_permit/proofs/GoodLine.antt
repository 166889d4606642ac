-- What the test of a line says of each of its parts.
-- Assumes nothing.
use mathlib.Core.Path.{◌≡◌}
use mathlib.Core.Bool.{Bool, true, not, ◌&&◌, false≢true}
use mathlib.Core.List.{List}
use Prim.Native.Nat.{ℕ, ◌+◌, ◌-◌, ◌≤◌}
use borrow.Author.Tests.{eq-eqb, leb-true}
use lib.Dec.{eqb}
use lib.ListN.{length, get_or}
use Rattle.text.specs.Characters.{is_hex, is_name_character, is_printable}
use Rattle.text.specs.Texts.{all_at}
use Rattle.dates.proofs.Bounds.{both}
use Rattle.forms.specs.DateText.{is_date_at}
use Rattle.cell_permit.specs.Line.{is_permit, comma_at, edition_length, comment_place, is_tail, is_line}

pub record GoodLine (line : List ℕ) : Type 0 where
  pub short : length line ≤ 160
  pub name : all_at is_name_character 8 line 0 ≡ true
  pub expiry : is_date_at line 8 ≡ true
  pub key1 : all_at is_hex 16 line 16 ≡ true
  pub key2 : all_at is_hex 16 line 32 ≡ true
  pub check : all_at is_hex 16 line 48 ≡ true
  pub comma1 : comma_at line 64 ≡ true
  pub low : 48 ≤ get_or line 65 0
  pub high : get_or line 65 0 ≤ 49
  pub comma2 : comma_at line 66 ≡ true
  pub no_zero : get_or line 67 0 ≡ 48 → ⊥
  pub comma3 : comma_at line (67 + edition_length line) ≡ true
  pub server : all_at is_name_character 2 line (68 + edition_length line) ≡ true
  pub comma4 : comma_at line (70 + edition_length line) ≡ true
  pub comment : all_at is_printable (length line - comment_place line) line (comment_place line) ≡ true

differ : (a b : ℕ) → not (eqb a b) ≡ true → a ≡ b → ⊥
differ a b e same = false≢true (rw (eq-eqb a b same) at e)

-- five tests
record Five (a b c d e : Bool) : Type 0 where
  first : a ≡ true
  second : b ≡ true
  third : c ≡ true
  fourth : d ≡ true
  fifth : e ≡ true

five : (a b c d e : Bool) → (a && b && c && d && e) ≡ true → Five a b c d e
five a b c d e all =
    let abcd = both (a && b && c && d) e all in
    let abc = both (a && b && c) d abcd.0 in
    let ab = both (a && b) c abc.0 in
    record { first = (both a b ab.0).0; second = (both a b ab.0).1; third = ab.1; fourth = abc.1; fifth = abcd.1 }

pub good_line : (line : List ℕ) → is_line line ≡ true → GoodLine line
unfolding is_line is_permit is_tail
good_line line good =
    let halves = both _ _ good in
    let first-half = both _ _ halves.0 in
    let permit = five _ _ _ _ _ first-half.1 in
    let tail = five _ _ _ _ _ halves.1 in
    let level = five true _ _ _ _ tail.first in
    let range = both _ _ level.third in
    record {
      short = leb-true (length line) 160 first-half.0;
      name = permit.first;
      expiry = permit.second;
      key1 = permit.third;
      key2 = permit.fourth;
      check = permit.fifth;
      comma1 = level.second;
      low = leb-true 48 (get_or line 65 0) range.0;
      high = leb-true (get_or line 65 0) 49 range.1;
      comma2 = level.fourth;
      no_zero = differ (get_or line 67 0) 48 level.fifth;
      comma3 = tail.second;
      server = tail.third;
      comma4 = tail.fourth;
      comment = tail.fifth;
    }
