-- What the bytes have beside the numbers that they say: the length, the version, the used length, and zeros.
-- Bytes with such a frame are what is written of what they say, and an undamaged book has it.
-- Assumes nothing.
use mathlib.Core.Path.{◌≡◌, refl, sym, ap, ap₂, ◌∙◌, subst}
use mathlib.Core.Bool.{true}
use mathlib.Core.List.{List, ◌∷◌, ◌++◌, append_assoc}
use Prim.Native.Nat.{ℕ, zero, suc, ◌+◌, ◌-◌, ◌*◌, ◌≤◌, ◌<◌}
use native.Mathlib.Omega.{arith}
use lib.ListN.{length, get_or, take, drop, length-append, length-drop}
use lib.Seq.{drop-cons, take_all, get_or-append-add, split_at, length-take-le}
use Rattle.octets.specs.Numbers.{digits, Below, bytes_of}
use Rattle.octets.specs.Places.{number_at}
use Rattle.octets.proofs.Digits.{digits-length}
use Rattle.octets.proofs.Places.{bytes_at}
use Rattle.text.specs.Texts.{part}
use Rattle.tenants.specs.Together.{BookRecord, Book}
use Rattle.layout.specs.Layout.{
  Version,
  two,
  version_byte,
  last_size,
  setting_size,
  record_size_by,
  book_size_by,
  used_length_by,
  settings_place,
  records_place,
  zeros,
  setting_bytes,
  record_bytes_by,
  all_bytes,
  book_bytes_by,
  setting_place,
  record_place_by,
  setting_at,
  record_at_by,
  record_count_by,
  each_from,
  book_of_by,
  is_book_by,
  is_book,
}
use Rattle.layout.proofs.Versions.{place_next, used_most, record_within}
use Rattle.layout.proofs.Each.{each_count, each-written, meet}
use Rattle.layout.proofs.Sizes.{book_size_lem, settings_size, records_size}
use Rattle.layout.proofs.Fits.{BookFits, LastsFit, good_lasts, book_fits_by}
use Rattle.layout.proofs.ReadBack.{head, rest, number_back, bytes_parts, used-back, count-back}
use Rattle.layout.proofs.Promises.{says_by}
use Rattle.layout.proofs.Splits.{bytes_before, cut-bytes}
use Rattle.layout.proofs.Written.{zeros-part, setting_written, record_written}

pub record Frame (v : Version) (s : List ℕ) : Type 0 where
  pub size : length s ≡ book_size_by v
  pub version : get_or s 0 0 ≡ version_byte v
  pub used : number_at 4 s 1 ≡ used_length_by v (record_count_by v s)
  pub few : record_count_by v s ≤ 512
  pub records : (i : ℕ) → i < record_count_by v s → number_at 3 s (record_place_by v i + 21) ≡ 0
  pub rest : (j : ℕ) → used_length_by v (record_count_by v s) ≤ j → get_or s j 0 ≡ 0

-- the bytes of the records and of what follows
abbrev room_by : Version → ℕ
room_by v = record_size_by v * 512

module _ (v : Version) (s : List ℕ) (below : Below 256 s) (frame : Frame v s) where
  abbrev n : ℕ
  n = record_count_by v s

  -- what is written of its settings and records
  abbrev settings : List ℕ
  settings = all_bytes setting_bytes (each_from (setting_at s) 0 16)

  abbrev records : List ℕ
  records = all_bytes (record_bytes_by v) (each_from (record_at_by v s) 0 n)

  -- the parts of the book, the last first
  from_rest : rest v n ≡ part (book_size_by v - used_length_by v n) s (used_length_by v n)
  from_rest =
      zeros-part (book_size_by v - used_length_by v n) s (used_length_by v n) (omega (arith, frame.size, used_most v n frame.few))
      (λ j low high. frame.rest j low)

  pub all_records : records ≡ part (record_size_by v * n) s records_place
  all_records =
      let first : record_place_by v 0 ≡ records_place = omega arith in
      each-written (record_size_by v) (record_bytes_by v) (record_place_by v) (place_next v) (record_at_by v s) s 0 n
      (λ i low high. record_written s below v i
      (omega (arith, frame.size, used_most v n frame.few, record_within v i n (omega arith))) (frame.records i (omega arith)))
      ∙ ap (part (record_size_by v * n) s) first

  from_records : records ++ rest v n ≡ part (room_by v) s records_place
  from_records =
      let size : record_size_by v * n + (book_size_by v - used_length_by v n) ≡ room_by v = omega (arith, used_most v n frame.few) in
      ap₂ (λ (a b : List ℕ). a ++ b) all_records from_rest
      ∙ meet (record_size_by v * n) (book_size_by v - used_length_by v n) s records_place (used_length_by v n) (omega arith)
      ∙ ap (λ (k : ℕ). part k s records_place) size

  pub all_settings : settings ≡ part 96 s settings_place
  all_settings =
      each-written setting_size setting_bytes setting_place (λ t. omega arith) (setting_at s) s 0 16
      (λ t low high. setting_written s below t (omega (arith, frame.size)))

  from_settings : settings ++ (records ++ rest v n) ≡ part (96 + room_by v) s settings_place
  from_settings = ap₂ (λ (a b : List ℕ). a ++ b) all_settings from_records ∙ meet 96 (room_by v) s settings_place records_place refl

  from_used : bytes_of 4 (used_length_by v n) ++ (settings ++ (records ++ rest v n)) ≡ part (4 + (96 + room_by v)) s 1
  from_used =
      ap₂ (λ (a b : List ℕ). a ++ b)
      (ap (bytes_of 4) (sym frame.used) ∙ bytes_at 4 s 1 below (omega (arith, frame.size)))
      from_settings
      ∙ meet 4 (96 + room_by v) s 1 settings_place refl

  pub frame_written : book_bytes_by v (book_of_by v s) ≡ s
  unfolding book_bytes_by book_of_by
  frame_written =
      ap (λ (k : ℕ). version_byte v ∷ (bytes_of 4 (used_length_by v k) ++ (settings ++ (records ++ rest v k))))
      (each_count (record_at_by v s) 0 n)
      ∙ ap₂ (λ (b : ℕ) (l : List ℕ). b ∷ l) (sym frame.version)
      (from_used ∙ take_all (4 + (96 + room_by v)) (drop 1 s) (simp length-drop (omega (arith, frame.size))))
      ∙ sym (drop-cons s 0 0 (omega (arith, frame.size)))

-- past its end a list of zeros is read as zeros too
zero_anywhere : (m k : ℕ) → get_or (zeros m) k 0 ≡ 0
zero_anywhere zero k = refl
zero_anywhere (suc m) zero = refl
zero_anywhere (suc m) (suc k) = zero_anywhere m k

-- the bytes of a book whose numbers fit
module _ (v : Version) (book : Book) (fits : BookFits v book) where
  abbrev m : ℕ
  m = length book.records

  record_zero : (before : List BookRecord) (r : BookRecord) (after : List BookRecord) → book.records ≡ before ++ (r ∷ after)
      → number_at 3 (book_bytes_by v book) (record_place_by v (length before) + 21) ≡ 0
  unfolding all_bytes
  record_zero before r after cut =
      let values : List ℕ = bytes_of 9 r.name ++ (bytes_of 2 r.edition ++ (bytes_of 5 r.key1 ++ bytes_of 5 r.key2)) in
      let behind : List ℕ = bytes_of (last_size v) r.last ++ (all_bytes (record_bytes_by v) after ++ rest v m) in
      number_back 3 0 (record_place_by v (length before) + 21) (bytes_before v m book.settings before ++ values) behind
      (cut-bytes v book before (r ∷ after) cut ∙ unfold record_bytes_by digits in simp append_assoc)
      (simp (length-append, digits-length, settings_size, records_size) (omega (arith, fits.sixteen)))
      (omega arith)

  rest_zero : (j : ℕ) → used_length_by v m ≤ j → get_or (book_bytes_by v book) j 0 ≡ 0
  rest_zero j past =
      let all : List ℕ = head v m book.settings ++ all_bytes (record_bytes_by v) book.records in
      let place : j ≡ length all + (j - used_length_by v m) =
      simp (length-append, digits-length, settings_size, records_size) (omega (arith, fits.sixteen)) in
      ap₂ (λ (l : List ℕ) (k : ℕ). get_or l k 0)
      (bytes_parts v book ∙ sym (append_assoc (head v m book.settings) (all_bytes (record_bytes_by v) book.records) (rest v m))) place
      ∙ get_or-append-add all (rest v m) (j - used_length_by v m) 0
      ∙ zero_anywhere (book_size_by v - used_length_by v m) (j - used_length_by v m)

  book_has_frame : Frame v (book_bytes_by v book)
  book_has_frame = record {
    size = book_size_lem v book fits.sixteen fits.few;
    version = version;
    used = used-back v book fits ∙ ap (used_length_by v) (sym (count-back v book fits));
    few = omega (arith, count-back v book fits, fits.few);
    records = zeros-there;
    rest = λ j past. rest_zero j (rw (count-back v book fits) at past);
  }
    where
      version : get_or (book_bytes_by v book) 0 0 ≡ version_byte v
      version = unfold book_bytes_by in refl

      zeros-there : (i : ℕ) → i < record_count_by v (book_bytes_by v book) → number_at 3 (book_bytes_by v book) (record_place_by v i + 21) ≡ 0
      zeros-there i h =
          let within : i < m = omega (arith, count-back v book fits) in
          let none : BookRecord = record { name = 0; edition = 0; key1 = 0; key2 = 0; last = 0 } in
          let before : List BookRecord = take i book.records in
          ap (λ (k : ℕ). number_at 3 (book_bytes_by v book) (record_place_by v k + 21)) (sym (length-take-le i book.records (omega arith)))
          ∙ record_zero before (get_or book.records i none) (drop (suc i) book.records) (split_at book.records i none within)

module _ (v : Version) (s : List ℕ) (undamaged : is_book_by v s ≡ true) (lasts : LastsFit v (book_of_by v s).records) where
  pub frame_by : Frame v s
  frame_by =
      let says = says_by v s undamaged in
      subst (Frame v) says.1.0 (book_has_frame v (book_of_by v s) (book_fits_by v (book_of_by v s) says.0 lasts))

pub book_frame : (s : List ℕ) → is_book s ≡ true → Frame two s
book_frame s undamaged = frame_by two s undamaged (good_lasts (book_of_by two s) (says_by two s undamaged).0)
