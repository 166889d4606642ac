-- A good book's bytes are an undamaged book and say that book; each undamaged book is such.
-- Assumes nothing.
use mathlib.Core.Path.{◌≡◌, sym, ap, ◌∙◌}
use mathlib.Core.Bool.{true, ◌&&◌}
use mathlib.Core.List.{List}
use Prim.Native.Nat.{ℕ}
use native.Mathlib.Omega.{arith}
use borrow.Author.Tests.{eqb-true, eq-eqb, ne_eqb}
use lib.Dec.{eqb}
use lib.ListN.{length}
use Rattle.octets.proofs.Every.{and_first, and_second}
use Rattle.text.specs.Texts.{same_text}
use Rattle.text.proofs.SameTexts.{same_true, same_refl}
use Rattle.tenants.specs.Together.{Book, is_good}
use Rattle.tenants.proofs.Goodness.{Good, good_facts}
use Rattle.layout.specs.Layout.{Version, one, two, book_size_by, book_size, book_bytes_by, book_of_by, is_book_by, book_bytes, book_of, is_book}
use Rattle.layout.specs.Readable.{GoodReadsBack, UndamagedSays, VersionsApart}
use Rattle.layout.proofs.Sizes.{book_size_lem}
use Rattle.layout.proofs.Fits.{BookFits, LastsFit, good_lasts, book_fits_by}
use Rattle.layout.proofs.ReadBack.{book-back}

module _ (v : Version) where
  -- what is written of a good book, for whose last expiries a version has bytes, reads back
  pub reads_back : (book : Book) → is_good book ≡ true → LastsFit v book.records
      → (is_book_by v (book_bytes_by v book) ≡ true) × (book_of_by v (book_bytes_by v book) ≡ book)
  reads_back book good lasts = (undamaged, back)
    where
      fits : BookFits v book
      fits = book_fits_by v book good lasts

      back : book_of_by v (book_bytes_by v book) ≡ book
      back = book-back v book fits

      same : same_text (book_bytes_by v book) (book_bytes_by v (book_of_by v (book_bytes_by v book))) ≡ true
      same = ap (λ (b : Book). same_text (book_bytes_by v book) (book_bytes_by v b)) back ∙ same_refl (book_bytes_by v book)

      undamaged : is_book_by v (book_bytes_by v book) ≡ true
      undamaged =
          unfold is_book_by in
          rw (eq-eqb (length (book_bytes_by v book)) (book_size_by v) (book_size_lem v book fits.sixteen fits.few), same) (ap is_good back ∙ good)

  -- and an undamaged book is what is written of the good book that it says
  pub says_by : (s : List ℕ) → is_book_by v s ≡ true
      → (is_good (book_of_by v s) ≡ true) × ((book_bytes_by v (book_of_by v s) ≡ s) × (length s ≡ book_size_by v))
  unfolding is_book_by
  says_by s undamaged =
      let long = eqb (length s) (book_size_by v) in
      let same = same_text s (book_bytes_by v (book_of_by v s)) in
      let both = and_first (long && same) (is_good (book_of_by v s)) undamaged in (
        and_second (long && same) (is_good (book_of_by v s)) undamaged,
        (
          sym (same_true s (book_bytes_by v (book_of_by v s)) (and_second long same both)),
          eqb-true (length s) (book_size_by v) (and_first long same both),
        ),
      )

pub good_reads_back : GoodReadsBack
good_reads_back book good = reads_back two book good (good_lasts book good)

pub undamaged_says : UndamagedSays
undamaged_says = says_by two

pub versions_apart : VersionsApart
unfolding is_book_by
versions_apart s old = rw (ne_eqb (length s) book_size (λ same. omega (arith, (says_by one s old).1.1, same)))

module _ (s : List ℕ) (undamaged : is_book s ≡ true) where
  -- what an undamaged book says is good
  pub good : Good (book_of s)
  good = good_facts (book_of s) (undamaged_says s undamaged).0

  -- and its bytes are those of what it says
  pub written_so : book_bytes (book_of s) ≡ s
  written_so = (undamaged_says s undamaged).1.0
