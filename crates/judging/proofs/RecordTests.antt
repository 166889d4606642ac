-- The test of one record: what its bytes say, and how its two halves are made.
-- Assumes nothing.
use mathlib.Core.Path.{◌≡◌, refl, ap, ◌∙◌}
use mathlib.Core.Bool.{Bool, true, false, ◌&&◌}
use mathlib.Core.List.{List}
use Prim.Native.Nat.{ℕ, ◌+◌, ◌*◌, ◌^◌, ◌≤◌, ◌<◌}
use native.Mathlib.Omega.{arith}
use borrow.Author.Tests.{le-leb, leb-true, ltb-true, lt-ltb, eqb-true, eq-eqb}
use lib.Bits.{bit_or, or_lt, or_add_and, and_le_l, and_le_r}
use lib.Dec.{leb, ltb, eqb}
use lib.ListN.{length, get_or}
use Rattle.octets.specs.Numbers.{Below}
use Rattle.octets.specs.Places.{number_at}
use Rattle.octets.proofs.Every.{and_first, and_second, either, same_tests}
use Rattle.octets.proofs.Places.{number_join, number_at_below}
use Rattle.forms.specs.Identifiers.{is_cell_name}
use Rattle.tenants.specs.Rules.{is_tenant, is_last, is_held}
use Rattle.tenants.specs.Together.{full_name, tenant_of, name_of, is_record}
use Rattle.layout.specs.Layout.{record_at_by, record_size, record_place, record_at}
use Rattle.judging.specs.Judging.{cell_test, spare_of, last_known, record_test}
use Rattle.text.specs.Texts.{part}
use Rattle.layout.proofs.Told.{byte_number}
use Rattle.judging.proofs.Parts.{number_in_part, byte_in_part}

-- what is known to be a last expiry: 0, the one of a record that is right, and then the one that is known after it
pub none_known : is_last 0 ≡ true
unfolding is_last
none_known = refl

pub cell_last : (p : List ℕ) (name : ℕ) → cell_test p name ≡ true → is_last (number_at 4 p 24) ≡ true
unfolding cell_test
cell_last p name right = search (and_second, right)

pub known_next : (last known : ℕ) → is_last last ≡ true → is_last known ≡ true → is_last (last_known last known) ≡ true
known_next last known this before = either (eqb last 0) (λ none. rw none before) (λ some. rw some this)

-- bytes taken together are below 256 exactly where each is
pub or_spare : (a b : ℕ) → leb (bit_or a b) 255 ≡ (leb a 255 && leb b 255)
or_spare a b =
    same_tests (leb (bit_or a b) 255) (leb a 255 && leb b 255)
    (λ both. let h : bit_or a b ≤ 255 = leb-true _ _ both in
    rw (le-leb a 255 (omega (arith, or_add_and a b, and_le_r a b)), le-leb b 255 (omega (arith, or_add_and a b, and_le_l a b))))
    (λ each. let x : a ≤ 255 = leb-true a 255 (and_first (leb a 255) (leb b 255) each) in
    let y : b ≤ 255 = leb-true b 255 (and_second (leb a 255) (leb b 255) each) in
    le-leb (bit_or a b) 255 (omega (arith, or_lt 8 a b (omega arith) (omega arith))))

other_order : (a h c e l z : Bool) → a ≡ true → (h && c && e && l && z) ≡ (a && (c && e && true && true && l) && (h && z))
other_order true true true true l z is = refl
other_order true true true false l z is = refl
other_order true true false e l z is = refl
other_order true false true true true z is = refl
other_order true false true true false z is = refl
other_order true false true false l z is = refl
other_order true false false e l z is = refl
other_order false h c e l z is = cc

-- within one tenant full names go by name
by_name : (t name cell : ℕ) → ltb name cell ≡ ltb (full_name t name) (full_name t cell)
by_name t name cell =
    same_tests (ltb name cell) (ltb (full_name t name) (full_name t cell))
    (λ low. lt-ltb (full_name t name) (full_name t cell) (omega (arith, ltb-true name cell low)))
    (λ low. lt-ltb name cell (omega (arith, ltb-true (full_name t name) (full_name t cell) low)))

module _ (s : List ℕ) (below : Below 256 s) (i : ℕ) (inside : record_place i + record_size ≤ length s) where
  abbrev bytes : List ℕ
  bytes = part record_size s (record_place i)

  pub full_name_lem : (record_at s i).name ≡ full_name (get_or s (record_place i) 0) (number_at 8 s (record_place i + 1))
  unfolding record_at_by
  full_name_lem =
      number_join 1 8 s (record_place i) (omega arith)
      ∙ ap (λ (t : ℕ). full_name t (number_at 8 s (record_place i + 1))) (byte_number s (record_place i))

  pub tenant_is : tenant_of (record_at s i) ≡ get_or s (record_place i) 0
  tenant_is = omega (arith, full_name_lem, number_at_below 8 s (record_place i + 1) below)

  name_is : name_of (record_at s i) ≡ number_at 8 s (record_place i + 1)
  name_is = omega (arith, full_name_lem, number_at_below 8 s (record_place i + 1) below)

  edition_is : (record_at s i).edition ≡ number_at 2 s (record_place i + 9)
  unfolding record_at_by
  edition_is = refl

  key_one : (record_at s i).key1 < 256 ^ 5
  unfolding record_at_by
  key_one = number_at_below 5 s (record_place i + 11) below

  key_two : (record_at s i).key2 < 256 ^ 5
  unfolding record_at_by
  key_two = number_at_below 5 s (record_place i + 16) below

  spare_is : leb (spare_of bytes) 255 ≡ eqb (number_at 3 s (record_place i + 21)) 0
  unfolding spare_of
  spare_is =
      let at = record_place i in
      let zeros = number_at 3 s (at + 21) in
      let b = byte_in_part record_size s at inside in
      let second : at + 21 + 1 ≡ at + 22 = omega arith in
      let third : at + 22 + 1 ≡ at + 23 = omega arith in
      let joined : zeros ≡ number_at 1 s (at + 21) * 256 ^ 2 + number_at 2 s (at + 22) =
      number_join 1 2 s (at + 21) (omega arith) ∙ ap (λ (k : ℕ). number_at 1 s (at + 21) * 256 ^ 2 + number_at 2 s k) second in
      let last : number_at 2 s (at + 22) ≡ number_at 1 s (at + 22) * 256 ^ 1 + number_at 1 s (at + 23) =
      number_join 1 1 s (at + 22) (omega arith) ∙ ap (λ (k : ℕ). number_at 1 s (at + 22) * 256 ^ 1 + number_at 1 s k) third in
      let fits = number_at_below 1 s (at + 20) below in
      same_tests (leb (spare_of bytes) 255) (eqb zeros 0)
      (λ low. eq-eqb zeros 0 (omega (arith, leb-true (spare_of bytes) 255 low, b 21 (omega arith), b 22 (omega arith), b 23 (omega arith), joined, last)))
      (λ none. let e : zeros ≡ 0 = eqb-true zeros 0 none in
      le-leb (spare_of bytes) 255 (omega (arith, b 20 (omega arith), b 21 (omega arith), b 22 (omega arith), b 23 (omega arith), joined, last, fits)))

  last_is : (record_at s i).last ≡ number_at 4 s (record_place i + 24)
  unfolding record_at_by
  last_is = refl

  -- the bytes of tenant t's record pass exactly where what they say is right and above, and three zeros stand before its last expiry
  pub record_tested : (t name : ℕ) → get_or s (record_place i) 0 ≡ t → t ≤ 15 → record_test bytes name
      ≡ (is_record (record_at s i) && (ltb (full_name t name) (record_at s i).name && eqb (number_at 3 s (record_place i + 21)) 0))
  unfolding cell_test is_record is_held is_tenant
  record_tested t name its low =
      rw (
        number_in_part record_size s (record_place i) inside 8 1 (omega arith),
        number_in_part record_size s (record_place i) inside 2 9 (omega arith),
        number_in_part record_size s (record_place i) inside 4 24 (omega arith),
        spare_is,
        tenant_is,
        name_is,
        edition_is,
        last_is,
        lt-ltb (record_at s i).key1 (256 ^ 5) key_one,
        lt-ltb (record_at s i).key2 (256 ^ 5) key_two,
        full_name_lem,
        its,
        by_name t name (number_at 8 s (record_place i + 1)),
      )
      (other_order (leb t 15)
      (ltb (full_name t name) (full_name t (number_at 8 s (record_place i + 1))))
      (is_cell_name (number_at 8 s (record_place i + 1)))
      (leb 1 (number_at 2 s (record_place i + 9)) && leb (number_at 2 s (record_place i + 9)) 999)
      (is_last (number_at 4 s (record_place i + 24)))
      (eqb (number_at 3 s (record_place i + 21)) 0) (le-leb t 15 low))
