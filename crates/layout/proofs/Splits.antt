-- The book's bytes cut at the place of a record.
-- Assumes nothing.
use mathlib.Core.Path.{◌≡◌, sym, ap, ◌∙◌}
use mathlib.Core.List.{List, ◌++◌, append_assoc}
use Prim.Native.Nat.{ℕ, suc, ◌+◌, ◌-◌, ◌<◌}
use native.Mathlib.Omega.{arith}
use lib.ListN.{length, length-append, replicate-append-replicate}
use Rattle.tenants.specs.declared.Setting.{Setting}
use Rattle.tenants.specs.Together.{BookRecord, Book}
use Rattle.layout.specs.Layout.{Version, record_size_by, book_size_by, used_length_by, zeros, record_bytes_by, all_bytes, book_bytes_by, record_place_by}
use Rattle.layout.proofs.Versions.{place_next, used_most}
use Rattle.layout.proofs.Each.{bytes_append}
use Rattle.layout.proofs.Sizes.{records_size}
use Rattle.layout.proofs.ReadBack.{head, rest, head_size, bytes_parts}

regroup : (a b c d : List ℕ) → a ++ ((b ++ c) ++ d) ≡ (a ++ b) ++ (c ++ d)
regroup a b c d = simp append_assoc

module _ (v : Version) where
  -- the zeros past n records: room for one record, and the zeros past it
  pub rest_room : (n : ℕ) → n < 512 → rest v n ≡ zeros (record_size_by v) ++ rest v (suc n)
  rest_room n room =
      let count : book_size_by v - used_length_by v n ≡ record_size_by v + (book_size_by v - used_length_by v (suc n)) =
      omega (arith, place_next v n, used_most v (suc n) room) in
      ap zeros count ∙ sym (replicate-append-replicate (record_size_by v) (book_size_by v - used_length_by v (suc n)) 0)

  -- the bytes before a record: the head and the records before it
  abbrev pub bytes_before : ℕ → List Setting → List BookRecord → List ℕ
  bytes_before n settings before = head v n settings ++ all_bytes (record_bytes_by v) before

  -- the bytes from a record on: it and those after it, and zeros
  abbrev pub bytes_from : ℕ → List BookRecord → List ℕ
  bytes_from n after = all_bytes (record_bytes_by v) after ++ rest v n

  pub before_size : (n : ℕ) (settings : List Setting) (before : List BookRecord) → length settings ≡ 16
      → length (bytes_before n settings before) ≡ record_place_by v (length before)
  before_size n settings before sixteen =
      length-append (head v n settings) (all_bytes (record_bytes_by v) before) ∙ omega (arith, head_size v n settings sixteen, records_size v before)

  module _ (book : Book) (before after : List BookRecord) (cut : book.records ≡ before ++ after) where
    pub cut-bytes : book_bytes_by v book ≡ bytes_before (length book.records) book.settings before ++ bytes_from (length book.records) after
    cut-bytes =
        let n = length book.records in
        bytes_parts v book
        ∙ ap (λ (l : List ℕ). head v n book.settings ++ (l ++ rest v n))
        (ap (all_bytes (record_bytes_by v)) cut ∙ bytes_append (record_bytes_by v) before after)
        ∙ regroup (head v n book.settings) (all_bytes (record_bytes_by v) before) (all_bytes (record_bytes_by v) after) (rest v n)
