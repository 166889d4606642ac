-- What is written of a book whose numbers fit is read back.
-- Assumes nothing.
use mathlib.Core.Path.{◌≡◌, refl, sym, ap, ap₂, ◌∙◌}
use mathlib.Core.List.{List, [], ◌∷◌, ◌++◌, append_assoc}
use Prim.Native.Nat.{ℕ, ◌+◌, ◌-◌, ◌^◌, ◌<◌}
use native.Mathlib.Nat.{mod-eq_of_lt}
use native.Mathlib.Omega.{arith}
use lib.ListN.{length, length-append}
use Rattle.octets.specs.Numbers.{bytes_of}
use Rattle.octets.specs.Places.{number_at}
use Rattle.octets.proofs.Digits.{digits-length}
use Rattle.octets.proofs.Places.{number_written}
use Rattle.tenants.specs.declared.Setting.{Setting}
use Rattle.tenants.specs.Together.{BookRecord, Book}
use Rattle.layout.specs.Layout.{
  Version,
  version_byte,
  last_size,
  setting_size,
  record_size_by,
  book_size_by,
  zeros,
  setting_bytes,
  record_bytes_by,
  all_bytes,
  used_length_by,
  book_bytes_by,
  setting_place,
  record_place_by,
  setting_at,
  record_at_by,
  record_count_by,
  each_from,
  book_of_by,
}
use Rattle.layout.proofs.Versions.{place_next, used_below, used_counts}
use Rattle.layout.proofs.Sizes.{setting_size_lem, record_size_lem, settings_size}
use Rattle.layout.proofs.Each.{each_back}
use Rattle.layout.proofs.Fits.{SettingFits, RecordFits, BookFits}

-- a number that fits is read where its bytes stand
pub number_back : (n x at : ℕ) (front back : List ℕ) {s : List ℕ} → s ≡ front ++ (bytes_of n x ++ back) → length front ≡ at → x < 256 ^ n
    → number_at n s at ≡ x
number_back n x at front back {s} e start fits =
    ap₂ (number_at n) e (sym start) ∙ number_written n x front back ∙ mod-eq_of_lt fits

module _ (x : Setting) (t : ℕ) (front back : List ℕ) (start : length front ≡ setting_place t) (fits : SettingFits x) where
  setting_back : setting_at (front ++ (setting_bytes x ++ back)) t ≡ x
  setting_back = unfold setting_at in λ i. record { quota = quota i; days = days i; server = server i; principal = principal i }
    where
      s : List ℕ
      s = front ++ (setting_bytes x ++ back)

      before-days : List ℕ
      before-days = front ++ bytes_of 2 x.quota

      after-days : List ℕ
      after-days = bytes_of 2 x.server ++ (bytes_of 1 x.principal ++ back)

      before-server : List ℕ
      before-server = before-days ++ bytes_of 1 x.days

      quota : number_at 2 s (setting_place t) ≡ x.quota
      quota =
          number_back 2 x.quota (setting_place t) front (bytes_of 1 x.days ++ after-days)
          (unfold setting_bytes in simp append_assoc) start fits.quota

      days : number_at 1 s (setting_place t + 2) ≡ x.days
      days =
          number_back 1 x.days (setting_place t + 2) before-days after-days
          (unfold setting_bytes in simp append_assoc) (simp (length-append, digits-length) (omega arith)) fits.days

      server : number_at 2 s (setting_place t + 3) ≡ x.server
      server =
          number_back 2 x.server (setting_place t + 3) before-server (bytes_of 1 x.principal ++ back)
          (unfold setting_bytes in simp append_assoc) (simp (length-append, digits-length) (omega arith)) fits.server

      principal : number_at 1 s (setting_place t + 5) ≡ x.principal
      principal =
          number_back 1 x.principal (setting_place t + 5) (before-server ++ bytes_of 2 x.server) back
          (unfold setting_bytes in simp append_assoc) (simp (length-append, digits-length) (omega arith)) fits.principal

module _ (v : Version) where
  module _ (r : BookRecord) (i : ℕ) (front back : List ℕ) (start : length front ≡ record_place_by v i) (fits : RecordFits v r) where
    record_back : record_at_by v (front ++ (record_bytes_by v r ++ back)) i ≡ r
    record_back = unfold record_at_by in λ j. record { name = name j; edition = edition j; key1 = key1 j; key2 = key2 j; last = last j }
      where
        s : List ℕ
        s = front ++ (record_bytes_by v r ++ back)

        before-edition : List ℕ
        before-edition = front ++ bytes_of 9 r.name

        before-key1 : List ℕ
        before-key1 = before-edition ++ bytes_of 2 r.edition

        after-key2 : List ℕ
        after-key2 = zeros 3 ++ (bytes_of (last_size v) r.last ++ back)

        after-key1 : List ℕ
        after-key1 = bytes_of 5 r.key2 ++ after-key2

        after-edition : List ℕ
        after-edition = bytes_of 5 r.key1 ++ after-key1

        name : number_at 9 s (record_place_by v i) ≡ r.name
        name =
            number_back 9 r.name (record_place_by v i) front (bytes_of 2 r.edition ++ after-edition)
            (unfold record_bytes_by in simp append_assoc) start fits.name

        edition : number_at 2 s (record_place_by v i + 9) ≡ r.edition
        edition =
            number_back 2 r.edition (record_place_by v i + 9) before-edition after-edition
            (unfold record_bytes_by in simp append_assoc) (simp (length-append, digits-length) (omega arith)) fits.edition

        key1 : number_at 5 s (record_place_by v i + 11) ≡ r.key1
        key1 =
            number_back 5 r.key1 (record_place_by v i + 11) before-key1 after-key1
            (unfold record_bytes_by in simp append_assoc) (simp (length-append, digits-length) (omega arith)) fits.key1

        key2 : number_at 5 s (record_place_by v i + 16) ≡ r.key2
        key2 =
            number_back 5 r.key2 (record_place_by v i + 16) (before-key1 ++ bytes_of 5 r.key1) after-key2
            (unfold record_bytes_by in simp append_assoc) (simp (length-append, digits-length) (omega arith)) fits.key2

        last : number_at (last_size v) s (record_place_by v i + 24) ≡ r.last
        last =
            number_back (last_size v) r.last (record_place_by v i + 24) (before-key1 ++ (bytes_of 5 r.key1 ++ (bytes_of 5 r.key2 ++ zeros 3))) back
            (unfold record_bytes_by in simp append_assoc) (simp (length-append, digits-length) (omega arith)) fits.last

  -- version and used length
  abbrev pub start : ℕ → List ℕ
  start n = version_byte v ∷ bytes_of 4 (used_length_by v n)

  -- what stands before the records
  abbrev pub head : ℕ → List Setting → List ℕ
  head n settings = start n ++ all_bytes setting_bytes settings

  -- the zeros past the used length
  abbrev pub rest : ℕ → List ℕ
  rest n = zeros (book_size_by v - used_length_by v n)

  pub head_size : (n : ℕ) (settings : List Setting) → length settings ≡ 16 → length (head n settings) ≡ record_place_by v 0
  head_size n settings sixteen = simp (length-append, digits-length, settings_size) (omega arith)

  -- the book as its head, its records and zeros
  pub bytes_parts : (book : Book)
      → book_bytes_by v book ≡ head (length book.records) book.settings ++ (all_bytes (record_bytes_by v) book.records ++ rest (length book.records))
  unfolding book_bytes_by
  bytes_parts book = simp append_assoc

  module _ (book : Book) (fits : BookFits v book) where
    abbrev n : ℕ
    n = length book.records

    abbrev after : List ℕ
    after = all_bytes (record_bytes_by v) book.records ++ rest n

    pub used-back : number_at 4 (book_bytes_by v book) 1 ≡ used_length_by v n
    unfolding book_bytes_by
    used-back = number_back 4 (used_length_by v n) 1 (version_byte v ∷ []) (all_bytes setting_bytes book.settings ++ after) refl refl (used_below v n fits.few)

    pub count-back : record_count_by v (book_bytes_by v book) ≡ n
    unfolding record_count_by
    count-back = rw used-back (used_counts v n)

    all_settings : each_from (setting_at (book_bytes_by v book)) 0 16 ≡ book.settings
    unfolding book_bytes_by
    all_settings =
        ap (each_from (setting_at (book_bytes_by v book)) 0) (sym fits.sixteen)
        ∙ each_back setting_size setting_bytes setting_place (λ t. omega arith) setting_size_lem SettingFits setting_at setting_back
        book.settings 0 (start n) after (simp digits-length) fits.settings

    all_records : each_from (record_at_by v (book_bytes_by v book)) 0 n ≡ book.records
    all_records =
        ap (λ (s : List ℕ). each_from (record_at_by v s) 0 n) (bytes_parts book)
        ∙ each_back (record_size_by v) (record_bytes_by v) (record_place_by v) (place_next v) (record_size_lem v) (RecordFits v) (record_at_by v) record_back
        book.records 0 (head n book.settings) (rest n) (head_size n book.settings fits.sixteen) fits.records

    pub book-back : book_of_by v (book_bytes_by v book) ≡ book
    unfolding book_of_by
    book-back =
        ap₂ (λ (settings : List Setting) (records : List BookRecord). record { settings = settings; records = records })
        all_settings
        (ap (each_from (record_at_by v (book_bytes_by v book)) 0) count-back ∙ all_records)
