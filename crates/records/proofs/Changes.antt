-- The bytes of an undamaged book after a record is written, put in or taken out at the place that the search tells are those of the book so changed.
-- Assumes nothing.
use mathlib.Core.Path.{◌≡◌, refl, sym, ap, ap₂, ◌∙◌}
use mathlib.Core.Bool.{true}
use mathlib.Core.List.{List, ◌++◌}
use Prim.Native.Nat.{ℕ, suc, ◌<◌}
use native.Mathlib.Omega.{arith}
use borrow.Author.Tests.{le-leb, lt-ltb}
use lib.ListN.{length, length-append}
use Rattle.tenants.specs.declared.Held.{Held}
use Rattle.tenants.specs.Rules.{enters, withdraws}
use Rattle.tenants.specs.Together.{in_book, BookRecord, full_name, changed}
use Rattle.tenants.proofs.Goodness.{Good}
use Rattle.layout.specs.Layout.{used_length, book_bytes, record_count, book_of, is_book}
use Rattle.layout.proofs.Frame.{book_frame}
use Rattle.layout.proofs.Indexed.{book_count}
use Rattle.layout.proofs.Promises.{good as Good-book, written_so}
use Rattle.records.specs.Moves.{record_put, inserted_among, removed_among, record_inserted, record_removed, Replaces, Inserts, Removes}
use Rattle.records.proofs.Found.{Here, Gone}
use Rattle.records.proofs.Listed.{entered_here, entered_gone, withdrawn_here}
use Rattle.records.proofs.Rewritten.{record-replaced, record-inserted, record-removed}
use Rattle.records.proofs.OwnFound.{here, gone, found_within, absent-within}

module _ (s : List ℕ) (undamaged : is_book s ≡ true) where
  good : Good (book_of s)
  good = Good-book s undamaged

  says : s ≡ book_bytes (book_of s)
  says = sym (written_so s undamaged)

  abbrev with : List Held → List ℕ
  with records = book_bytes (record { settings = (book_of s).settings; records = records })

  module _ (t : ℕ) (cell : Held) (i : ℕ) where
    abbrev new : BookRecord
    new = in_book t cell

    replaced : Here (full_name t cell.name) (book_of s).records i
        → record_put i new s ≡ book_bytes (changed t (enters cell) (book_of s))
    replaced h =
        ap₂ (λ (n : ℕ) (l : List ℕ). record_put n new l) (sym h.place) (says ∙ ap with h.whole)
        ∙ record-replaced (book_of s).settings good.sixteen h.front new h.back h.it
        ∙ ap with (sym (entered_here new (book_of s).records i h))

    inserted : Gone (full_name t cell.name) (book_of s).records i → record_count s < 512
        → inserted_among (record_count s) i new s ≡ book_bytes (changed t (enters cell) (book_of s))
    inserted h room =
        ap₂ (λ (n : ℕ) (l : List ℕ). inserted_among (record_count s) n new l) (sym h.place) (says ∙ ap with h.whole)
        ∙ record-inserted (book_of s).settings good.sixteen h.front new h.back (record_count s)
        (ap length (sym h.whole) ∙ book_count s) room
        ∙ ap with (sym (entered_gone new (book_of s).records i h))

  removed : (t name i : ℕ) → Here (full_name t name) (book_of s).records i
      → removed_among (record_count s) i s ≡ book_bytes (changed t (withdraws name) (book_of s))
  removed t name i h =
      let n : ℕ = length (h.front ++ h.back) in
      let one_more : record_count s ≡ suc n = sym (book_count s) ∙ ap length h.whole ∙ simp length-append (omega arith) in
      ap (λ (m : ℕ). removed_among m i s) one_more
      ∙ ap₂ (removed_among (suc n)) (sym h.place) (says ∙ ap with h.whole)
      ∙ record-removed (book_of s).settings good.sixteen h.front h.it h.back n refl (omega (arith, good.count, book_count s))
      ∙ ap with (sym (withdrawn_here (full_name t name) (book_of s).records i h))

pub replaces : Replaces
replaces s t cell i undamaged small found = replaced s undamaged t cell i (here s undamaged t cell.name i small found)

pub inserts : Inserts
unfolding record_inserted
inserts s t cell i undamaged small room found =
    let within = absent-within s undamaged t cell.name i small found in
    rw (
      le-leb i (record_count s) within,
      le-leb (used_length (suc (record_count s))) (length s) (omega (arith, (book_frame s undamaged).size)),
    )
    (inserted s undamaged t cell i (gone s undamaged t cell.name i small found) room)

pub removes : Removes
unfolding record_removed
removes s t name i undamaged small found =
    rw (
      lt-ltb i (record_count s) (found_within s undamaged t name i small found),
      le-leb (used_length (record_count s)) (length s) (omega (arith, (book_frame s undamaged).size, (book_frame s undamaged).few)),
    )
    (removed s undamaged t name i (here s undamaged t name i small found))
