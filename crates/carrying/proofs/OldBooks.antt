-- A version 1 book says no last expiry; it has its form, and is undamaged exactly where the book is that it is carried over to. So carrying over
-- answers what its rule says.
-- Assumes nothing.
use mathlib.Core.Path.{◌≡◌, refl, sym, ap, ◌∙◌}
use mathlib.Core.Bool.{true, false}
use mathlib.Core.List.{List}
use Prim.Native.Nat.{ℕ, zero, suc, ◌+◌}
use native.Mathlib.Omega.{arith}
use borrow.Author.Tests.{eq-eqb, ne_eqb}
use lib.ListN.{length}
use Rattle.octets.specs.Numbers.{Below}
use Rattle.octets.specs.Places.{number_at}
use Rattle.octets.proofs.Every.{either, never_both, same_tests}
use Rattle.octets.proofs.Places.{number_at_below}
use Rattle.text.specs.Texts.{same_text, placed}
use Rattle.text.proofs.SameTexts.{same_refl}
use Rattle.text.proofs.PlacedTexts.{placed_start}
use Rattle.std.specs.Prelude.{Result, Ok, ⊤}
use Rattle.forms.specs.Output.{written_of, lent_after}
use Rattle.forms.specs.Refusals.{by, refused, done_or}
use Rattle.forms.specs.declared.refusals.Refusal.{Refusal}
use Rattle.tenants.specs.Together.{Book, is_good}
use Rattle.tenants.specs.Version1.{no_lasts}
use Rattle.layout.specs.Layout.{one, two, book_size_by, record_place_by, setting_at, record_at_by, record_count_by, book_of_by, is_book_by, setting_place, each_from, book_size, is_book, book_of}
use Rattle.layout.proofs.Each.{Each, each_count}
use Rattle.layout.proofs.Fits.{SettingFits, RecordFits, BookFits, no_lasts_lem}
use Rattle.layout.proofs.ReadBack.{book-back}
use Rattle.layout.proofs.Promises.{good_reads_back, undamaged_says, says_by}
use Rattle.layout.proofs.Frame.{Frame, frame_written, frame_by, book_frame}
use Rattle.carrying.specs.Carrying.{carried, carried_over, CarriesOver}
use Rattle.judging.specs.Judging.{form_test}
use Rattle.carrying.specs.OldForm.{wider}
use Rattle.judging.proofs.Forms.{form_facts, formed_test, formed_frame, frame_formed}
use Rattle.carrying.proofs.Wider.{old_last, wider_is, zeros_old}

module _ (s : List ℕ) where
  lasts_from : (i n : ℕ) → no_lasts (each_from (record_at_by one s) i n) ≡ true
  unfolding no_lasts each_from
  lasts_from i zero = refl
  lasts_from i (suc n) = rw (eq-eqb _ 0 (old_last s i), lasts_from (suc i) n)

  pub old_lasts : no_lasts (book_of_by one s).records ≡ true
  unfolding book_of_by
  old_lasts = lasts_from 0 (record_count_by one s)

-- an undamaged one has the frame, and so the form
pub old_frame : (s : List ℕ) → is_book_by one s ≡ true → Frame one s
old_frame s undamaged = frame_by one s undamaged (no_lasts_lem (book_of_by one s).records (old_lasts s))

old_form_lem : (s : List ℕ) → is_book_by one s ≡ true → form_test one s ≡ true
old_form_lem s undamaged = formed_test one s (frame_formed one s (old_frame s undamaged))

-- what holds wherever it is read holds of each
each_from_lem : {A : Type 0} (Holds : A → Type 0) (at : ℕ → A) → ((i : ℕ) → Holds (at i)) → (i n : ℕ) → Each Holds (each_from at i n)
unfolding each_from
each_from_lem Holds at all i zero = tt
each_from_lem Holds at all i (suc n) = (all i, each_from_lem Holds at all (suc i) n)

module _ (s : List ℕ) (below : Below 256 s) where
  setting_read : (t : ℕ) → SettingFits (setting_at s t)
  unfolding setting_at
  setting_read t = record {
    quota = number_at_below 2 s (setting_place t) below;
    days = number_at_below 1 s (setting_place t + 2) below;
    server = number_at_below 2 s (setting_place t + 3) below;
    principal = number_at_below 1 s (setting_place t + 5) below;
  }

  record_read : (i : ℕ) → RecordFits two (record_at_by one s i)
  unfolding record_at_by
  record_read i =
      let at = record_place_by one i in
      let last_none : number_at 0 s (at + 24) ≡ 0 = old_last s i in
      record {
        name = number_at_below 9 s at below;
        edition = number_at_below 2 s (at + 9) below;
        key1 = number_at_below 5 s (at + 11) below;
        key2 = number_at_below 5 s (at + 16) below;
        last = omega (arith, last_none);
      }

  module _ (form : form_test one s ≡ true) where
    -- its numbers fit version 2
    old_fits : BookFits two (book_of_by one s)
    unfolding book_of_by
    old_fits =
        let n = record_count_by one s in
        record {
          sixteen = each_count (setting_at s) 0 16;
          few = omega (arith, each_count (record_at_by one s) 0 n, (form_facts one s form).few);
          settings = each_from_lem SettingFits (setting_at s) setting_read 0 16;
          records = each_from_lem (RecordFits two) (record_at_by one s) record_read 0 n;
        }

    -- so the book that is written says what it says
    old_back : book_of (carried s) ≡ book_of_by one s
    old_back = book-back two (book_of_by one s) old_fits

    -- where that is good, and three zeros end each record, it is undamaged
    old_good : Frame one s → is_good (book_of_by one s) ≡ true → is_book_by one s ≡ true
    unfolding is_book_by
    old_good frame good =
        rw (eq-eqb (length s) (book_size_by one) frame.size, ap (same_text s) (frame_written one s below frame) ∙ same_refl s) good

    pub old_judged : is_book (wider s) ≡ is_book_by one s
    old_judged =
        same_tests (is_book (wider s)) (is_book_by one s)
        (λ undamaged.
        let frame : Frame one s = formed_frame one s (form_facts one s form) (zeros_old s below (form_facts one s form) (book_frame (wider s) undamaged)) in
        let new : is_book (carried s) ≡ true = sym (ap is_book (wider_is s below (form_facts one s form) frame)) ∙ undamaged in
        old_good frame (sym (ap is_good old_back) ∙ (undamaged_says (carried s) new).0))
        (λ undamaged.
        ap is_book (wider_is s below (form_facts one s form) (old_frame s undamaged))
        ∙ (good_reads_back (book_of_by one s) (says_by one s undamaged).0).0)

pub carries_over : CarriesOver
carries_over s undamaged =
    let (new, same) = good_reads_back (book_of_by one s) (says_by one s undamaged).0 in
    (new, (same, ap (λ (b : Book). no_lasts b.records) same ∙ old_lasts s))

-- the answer, and the second buffer afterwards
abbrev pub CarriedOver : List ℕ → List ℕ → Result ⊤ Refusal → List ℕ → Type 0
CarriedOver s lent answer after =
    (answer ≡ done_or (written_of (carried_over s (length lent)))) × (after ≡ lent_after (carried_over s (length lent)) lent)

module _ (s lent : List ℕ) where
  pub is_damaged : is_book_by one s ≡ false → CarriedOver s lent (refused (by 101)) lent
  unfolding carried_over
  is_damaged damaged = (rw damaged, rw damaged)

  pub no_form : form_test one s ≡ false → CarriedOver s lent (refused (by 101)) lent
  no_form wrong = is_damaged (either (is_book_by one s) (λ undamaged. absurd (never_both (form_test one s) wrong (old_form_lem s undamaged))) (λ damaged. damaged))

  module _ (undamaged : is_book_by one s ≡ true) where
    pub wrong_size : (length lent ≡ book_size → ⊥) → CarriedOver s lent (refused (by 108)) lent
    unfolding carried_over
    wrong_size other = (rw (undamaged, ne_eqb (length lent) book_size other), rw (undamaged, ne_eqb (length lent) book_size other))

    pub is_carried : length lent ≡ book_size → (after : List ℕ) → after ≡ placed 0 (carried s) lent → CarriedOver s lent (Ok tt) after
    unfolding carried_over
    is_carried size after written =
        let whole : length (carried s) ≡ book_size = (undamaged_says (carried s) (carries_over s undamaged).0).1.1 in (
          rw (undamaged, eq-eqb (length lent) book_size size),
          rw (undamaged, eq-eqb (length lent) book_size size) (written ∙ placed_start (carried s) lent (omega arith)),
        )
