-- A version 1 book with room for last expiries: where three zeros end each of its records it is the book that is carried over, and they do where it has
-- the frame of version 2.
-- Assumes nothing.
use mathlib.Core.Path.{◌≡◌, refl, sym, ap, ap₂, ◌∙◌}
use mathlib.Core.List.{List, [], ◌∷◌, ◌++◌, append_assoc}
use Prim.Native.Nat.{ℕ, zero, suc, ◌+◌, ◌-◌, ◌^◌, ◌≤◌, ◌<◌}
use native.Mathlib.Omega.{arith}
use borrow.Author.Tests.{leb-true, leb-false}
use lib.Dec.{leb}
use lib.ListN.{length, get_or, length-append}
use Rattle.octets.specs.Numbers.{digits, value, Below, bytes_of}
use Rattle.octets.specs.Places.{number_at}
use Rattle.octets.proofs.Digits.{digits-length}
use Rattle.octets.proofs.Every.{either}
use Rattle.octets.proofs.Places.{number_within, number_beyond, bytes_at, part_length, number_at_below, number_join}
use Rattle.text.specs.Texts.{part}
use Rattle.tenants.specs.Together.{BookRecord}
use Rattle.layout.specs.Layout.{
  one,
  two,
  record_size_by,
  record_bytes_by,
  record_place_by,
  record_at_by,
  record_count_by,
  book_bytes_by,
  book_of_by,
  settings_place,
  record_size,
  book_size,
  used_length,
  record_bytes,
  record_place,
  record_count,
  zeros,
  setting_bytes,
  all_bytes,
  each_from,
}
use Rattle.layout.proofs.Versions.{place_next, used_below, used_counts}
use Rattle.layout.proofs.Each.{Each, each_count, each_is, each_back}
use Rattle.layout.proofs.ReadBack.{number_back}
use Rattle.layout.proofs.Written.{record_written}
use Rattle.layout.proofs.Frame.{Frame, all_settings}
use Rattle.carrying.specs.Carrying.{carried}
use Rattle.carrying.specs.OldForm.{old_record, wider_bytes, wider_records, wider}
use Rattle.judging.proofs.Forms.{Formed}

-- the number of no bytes
none_at : (s : List ℕ) (at : ℕ) → number_at 0 s at ≡ 0
unfolding value
none_at s at =
    either (leb (at + 0) (length s))
    (λ there. number_within 0 s at (leb-true _ _ there))
    (λ beyond. number_beyond 0 s at (leb-false _ _ beyond))

-- a version 1 record says no last expiry
pub old_last : (s : List ℕ) (i : ℕ) → (record_at_by one s i).last ≡ 0
unfolding record_at_by
old_last s i = none_at s (record_place_by one i + 24)

pub wider_size : (x : ℕ) → length (wider_bytes x) ≡ record_size
unfolding wider_bytes
wider_size x = simp (length-append, digits-length)

-- a record with no last expiry has four zeros more in version 2
four_more : (r : BookRecord) → r.last ≡ 0 → record_bytes_by one r ++ zeros 4 ≡ record_bytes r
unfolding record_bytes_by digits
four_more r without = rw without (simp append_assoc)

-- what is written alike one by one is written alike as a whole
same_bytes : {A B : Type 0} (f : A → List ℕ) (g : B → List ℕ) (at : ℕ → A) (to : ℕ → B) (i n : ℕ)
    → ((k : ℕ) → i ≤ k → k < i + n → f (at k) ≡ g (to k)) → all_bytes f (each_from at i n) ≡ all_bytes g (each_from to i n)
unfolding all_bytes each_from
same_bytes f g at to i zero same = refl
same_bytes f g at to i (suc n) same =
    ap₂ (λ (a b : List ℕ). a ++ b) (same i (omega arith) (omega arith))
    (same_bytes f g at to (suc i) n (λ k low high. same k (omega arith) (omega arith)))

-- a number of a record's bytes is read where they stand
record_back : (x i : ℕ) (front back : List ℕ) → length front ≡ record_place i → x < 256 ^ record_size_by one
    → number_at (record_size_by one) (front ++ (wider_bytes x ++ back)) (record_place i) ≡ x
record_back x i front back start fits =
    number_back (record_size_by one) x (record_place i) front (zeros 4 ++ back) (unfold wider_bytes in simp append_assoc) start fits

module _ (s : List ℕ) (below : Below 256 s) (formed : Formed one s) where
  abbrev n : ℕ
  n = record_count_by one s

  inside : (i : ℕ) → i < n → record_place_by one i + record_size_by one ≤ length s
  inside i more = omega (arith, formed.size, formed.few)

  -- the bytes of record i, and four zeros
  pub wider_record : (i : ℕ) → i < n → part (record_size_by one) s (record_place_by one i) ++ zeros 4 ≡ wider_bytes (old_record s i)
  unfolding wider_bytes
  wider_record i more =
      ap (λ (l : List ℕ). l ++ zeros 4) (sym (bytes_at (record_size_by one) s (record_place_by one i) below (inside i more)))

  pub settings_size : length (part 96 s settings_place) ≡ 96
  settings_size = part_length 96 s settings_place (omega (arith, formed.size))

  abbrev front : List ℕ
  front = ((2 ∷ []) ++ bytes_of 4 (used_length n)) ++ part 96 s settings_place

  front_size : length front ≡ record_place 0
  front_size = simp (length-append, digits-length) (omega (arith, settings_size))

  abbrev past : List ℕ
  past = zeros (book_size - used_length n)

  -- three zeros end each record
  module _ (frame : Frame one s) where
    records_are : wider_records s ≡ all_bytes record_bytes (book_of_by one s).records
    unfolding book_of_by
    records_are =
        same_bytes wider_bytes record_bytes (old_record s) (record_at_by one s) 0 n
        (λ i low high.
        let more : i < n = omega arith in
        sym (wider_record i more)
        ∙ ap (λ (l : List ℕ). l ++ zeros 4) (sym (record_written s below one i (inside i more) (frame.records i more)))
        ∙ four_more (record_at_by one s i) (old_last s i))

    count_is : length (book_of_by one s).records ≡ n
    unfolding book_of_by
    count_is = each_count (record_at_by one s) 0 n

    pub wider_is : wider s ≡ carried s
    unfolding book_bytes_by
    wider_is =
        sym (rw count_is
        (ap₂ (λ (l k : List ℕ). 2 ∷ (bytes_of 4 (used_length n) ++ (l ++ (k ++ past)))) settings_are (sym records_are) ∙ simp append_assoc))
      where
        settings_are : all_bytes setting_bytes (book_of_by one s).settings ≡ part 96 s settings_place
        settings_are = unfold book_of_by in all_settings one s below frame

  -- the used length, and each record's bytes, are read back
  wider_count : record_count (wider s) ≡ n
  unfolding record_count_by
  wider_count =
      rw (number_back 4 (used_length n) 1 (2 ∷ []) (part 96 s settings_place ++ (wider_records s ++ past)) {s = wider s} (simp append_assoc) refl
      (used_below two n formed.few))
      (used_counts two n)

  numbers_fit : (i m : ℕ) → Each (λ (x : ℕ). x < 256 ^ record_size_by one) (each_from (old_record s) i m)
  unfolding each_from
  numbers_fit i zero = tt
  numbers_fit i (suc m) = (number_at_below (record_size_by one) s (record_place_by one i) below, numbers_fit (suc i) m)

  abbrev read_at : List ℕ → ℕ → ℕ
  read_at w i = number_at (record_size_by one) w (record_place i)

  all_back : each_from (read_at (wider s)) 0 n ≡ each_from (old_record s) 0 n
  all_back =
      ap (each_from (read_at (wider s)) 0) (sym (each_count (old_record s) 0 n))
      ∙ each_back record_size wider_bytes record_place (place_next two) wider_size (λ (x : ℕ). x < 256 ^ record_size_by one) read_at record_back
      (each_from (old_record s) 0 n) 0 front past front_size (numbers_fit 0 n)

  bytes_back : (i : ℕ) → i < n → read_at (wider s) i ≡ old_record s i
  bytes_back i more =
      sym (each_is (read_at (wider s)) n i 0 more) ∙ ap (λ (l : List ℕ). get_or l i 0) all_back ∙ each_is (old_record s) n i 0 more

  -- so where three zeros stand in version 2 they stand in version 1
  pub zeros_old : Frame two (wider s) → (i : ℕ) → i < n → number_at 3 s (record_place_by one i + 21) ≡ 0
  zeros_old frame i more =
      let there : record_place i + (21 + 3) ≤ length (wider s) = omega (arith, frame.size, formed.few) in
      omega (
        arith,
        number_join 21 3 (wider s) (record_place i) there,
        number_join 21 3 s (record_place_by one i) (inside i more),
        bytes_back i more,
        frame.records i (rw wider_count more),
        number_at_below 3 s (record_place_by one i + 21) below,
      )
