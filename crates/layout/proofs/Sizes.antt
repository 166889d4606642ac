-- How many bytes a setting, a record and a book have, and zeros without the first of them.
-- Assumes nothing.
use mathlib.Core.Path.{◌≡◌, sym, ap, ◌∙◌}
use mathlib.Core.List.{List}
use Prim.Native.Nat.{ℕ, ◌+◌, ◌*◌, ◌≤◌}
use native.Mathlib.Omega.{arith}
use lib.ListN.{length, drop, length-append, length-replicate, replicate-append-replicate}
use lib.Seq.{drop_at}
use Rattle.octets.proofs.Digits.{digits-length}
use Rattle.tenants.specs.declared.Setting.{Setting}
use Rattle.tenants.specs.Together.{BookRecord, Book}
use Rattle.layout.specs.Layout.{Version, zeros, setting_size, record_size_by, book_size_by, setting_bytes, record_bytes_by, all_bytes, book_bytes_by}
use Rattle.layout.proofs.Versions.{used_most}
use Rattle.layout.proofs.Each.{bytes-size}

-- zeros past n of them
pub drop-zeros : (n m size : ℕ) → size ≡ n + m → drop n (zeros size) ≡ zeros m
drop-zeros n m size e =
    ap (λ (k : ℕ). drop n (zeros k)) e
    ∙ ap (drop n) (sym (replicate-append-replicate n m 0))
    ∙ drop_at (zeros n) (zeros m) n (length-replicate n 0)

pub setting_size_lem : (x : Setting) → length (setting_bytes x) ≡ setting_size
unfolding setting_bytes
setting_size_lem x = simp (length-append, digits-length)

pub settings_size : (settings : List Setting) → length (all_bytes setting_bytes settings) ≡ setting_size * length settings
settings_size = bytes-size setting_size setting_bytes setting_size_lem

module _ (v : Version) where
  pub record_size_lem : (r : BookRecord) → length (record_bytes_by v r) ≡ record_size_by v
  unfolding record_bytes_by
  record_size_lem r = simp (length-append, digits-length) (omega arith)

  pub records_size : (records : List BookRecord) → length (all_bytes (record_bytes_by v) records) ≡ record_size_by v * length records
  records_size = bytes-size (record_size_by v) (record_bytes_by v) record_size_lem

  pub book_size_lem : (book : Book) → length book.settings ≡ 16 → length book.records ≤ 512 → length (book_bytes_by v book) ≡ book_size_by v
  unfolding book_bytes_by
  book_size_lem book sixteen few =
      simp (length-append, digits-length, settings_size, records_size, length-replicate) (omega (arith, used_most v (length book.records) few))
