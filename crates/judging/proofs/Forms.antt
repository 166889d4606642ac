-- The form of a book of a version: what its test says, and that it is the frame of the layout.
-- Assumes nothing.
use mathlib.Core.Path.{◌≡◌}
use mathlib.Core.Bool.{true, ◌&&◌}
use mathlib.Core.List.{List}
use Prim.Native.Nat.{ℕ, ◌+◌, ◌≤◌, ◌<◌}
use borrow.Author.Tests.{le-leb, leb-true, eq-eqb, eqb-true}
use lib.Dec.{leb, eqb}
use lib.ListN.{length, get_or, drop}
use Rattle.octets.specs.Every.{all_of}
use Rattle.octets.specs.Places.{number_at}
use Rattle.octets.proofs.Every.{and_first, and_second}
use Rattle.layout.specs.Layout.{Version, version_byte, used_length_by, book_size_by, record_place_by, record_count_by}
use Rattle.layout.proofs.Frame.{Frame}
use Rattle.judging.specs.Judging.{is_zero, form_test}
use Rattle.judging.proofs.Zeros.{zeros-each, each-zero}

-- what the tests find, in their order
pub record Formed (v : Version) (s : List ℕ) : Type 0 where
  pub size : length s ≡ book_size_by v
  pub version : get_or s 0 0 ≡ version_byte v
  pub few : record_count_by v s ≤ 512
  pub used : number_at 4 s 1 ≡ used_length_by v (record_count_by v s)
  pub rest : all_of is_zero (drop (used_length_by v (record_count_by v s)) s) ≡ true

module _ (v : Version) (s : List ℕ) where
  abbrev n : ℕ
  n = record_count_by v s

  pub form_facts : form_test v s ≡ true → Formed v s
  unfolding form_test
  form_facts all =
      let a = eqb (length s) (book_size_by v) in
      let b = eqb (get_or s 0 0) (version_byte v) in
      let c = leb n 512 in
      let d = eqb (number_at 4 s 1) (used_length_by v n) in
      let f = all_of is_zero (drop (used_length_by v n) s) in
      let four = and_first (a && b && c && d) f all in
      let three = and_first (a && b && c) d four in
      let both = and_first (a && b) c three in
      record {
        size = eqb-true (length s) (book_size_by v) (and_first a b both);
        version = eqb-true (get_or s 0 0) (version_byte v) (and_second a b both);
        few = leb-true n 512 (and_second (a && b) c three);
        used = eqb-true (number_at 4 s 1) (used_length_by v n) (and_second (a && b && c) d four);
        rest = and_second (a && b && c && d) f all;
      }

  pub formed_test : Formed v s → form_test v s ≡ true
  unfolding form_test
  formed_test formed =
      rw (
        eq-eqb (length s) (book_size_by v) formed.size,
        eq-eqb (get_or s 0 0) (version_byte v) formed.version,
        le-leb n 512 formed.few,
        eq-eqb (number_at 4 s 1) (used_length_by v n) formed.used,
      )
      formed.rest

  pub formed_frame : Formed v s → ((i : ℕ) → i < n → number_at 3 s (record_place_by v i + 21) ≡ 0) → Frame v s
  formed_frame formed spare = record {
    size = formed.size;
    version = formed.version;
    used = formed.used;
    few = formed.few;
    records = spare;
    rest = zeros-each s (used_length_by v n) formed.rest;
  }

  pub frame_formed : Frame v s → Formed v s
  frame_formed frame = record {
    size = frame.size;
    version = frame.version;
    few = frame.few;
    used = frame.used;
    rest = each-zero s (used_length_by v n) frame.rest;
  }
