-- A version 1 book that is carried over answers what it answered, and is changed as it was changed; so it may be carried over before its calls or after.
-- Assumes nothing.
use mathlib.Core.Path.{◌≡◌, refl, sym, ap, ap₂, ◌∙◌}
use mathlib.Core.Bool.{true, cond}
use mathlib.Core.List.{List, [], ◌∷◌}
use Prim.Native.Nat.{ℕ}
use lib.Dec.{eqb}
use Rattle.octets.proofs.Every.{and_first, and_second}
use Rattle.tenants.specs.Rules.{Own, Change}
use Rattle.tenants.specs.Calls.{Call, Answer, change_of, answer_of}
use Rattle.tenants.specs.Together.{Book, list_of, own_of, changed, is_good}
use Rattle.tenants.specs.Version1.{no_lasts, gives_no_last, change_before, answer_before}
use Rattle.tenants.proofs.KeptGood.{good_after}
use Rattle.tenants.proofs.Version1.{none_own, same_change_before, same_answer_before, none_after}
use Rattle.layout.specs.Layout.{one, book_of_by, is_book_by, book_bytes, book_of, is_book}
use Rattle.layout.proofs.Fits.{no_lasts_lem}
use Rattle.layout.proofs.Promises.{reads_back, says_by, versions_apart}
use Rattle.carrying.specs.Carrying.{carried}
use Rattle.carrying.proofs.OldBooks.{old_lasts, carries_over}
use Rattle.book.specs.OnBook.{answer_in, book_after}
use Rattle.book.specs.Mixed.{after_all, answers_to}
use Rattle.book.specs.Carried.{own_before, book_before, after_all_before, answers_before, give_no_last, OldRefused, AnsweredAsBefore, BeforeOrAfter}
use Rattle.book.proofs.Undamaged.{answer_says, after_says, damaged_refused}

module _ (s : List ℕ) (undamaged : is_book_by one s ≡ true) (t : ℕ) (call : Call) (given : gives_no_last call ≡ true) where
  abbrev b : Book
  b = book_of_by one s

  abbrev own : Own
  own = own_before s t

  -- the book that is carried over says what it said
  new : is_book (carried s) ≡ true
  new = (carries_over s undamaged).0

  same : book_of (carried s) ≡ b
  same = (carries_over s undamaged).1.0

  own_without : no_lasts own.cells ≡ true
  unfolding own_of
  own_without = none_own (list_of t b) b.records (old_lasts s)

  as_answered : answer_in t call (carried s) ≡ answer_before t call own
  as_answered =
      answer_says (carried s) t new call
      ∙ ap (λ (x : Book). answer_of t call (own_of t x)) same
      ∙ same_answer_before t own call given own_without

  -- what the call does to it
  abbrev then : Book
  then = changed t (change_before t call own) b

  rules : change_of t call own ≡ change_before t call own
  rules = same_change_before t own call given

  -- by both versions' rules that is one good book, and none of its cells has a last expiry
  good_then : is_good then ≡ true
  good_then = ap (λ (c : Change). is_good (changed t c b)) (sym rules) ∙ good_after t call b (says_by one s undamaged).0

  none_then : no_lasts then.records ≡ true
  none_then = ap (λ (c : Change). no_lasts (changed t c b).records) (sym rules) ∙ none_after t own b (old_lasts s) call given

  old_then : (is_book_by one (book_before t call s) ≡ true) × (book_of_by one (book_before t call s) ≡ then)
  old_then = reads_back one then good_then (no_lasts_lem then.records none_then)

  as_changed : book_after t call (carried s) ≡ carried (book_before t call s)
  as_changed =
      after_says (carried s) t new call
      ∙ ap (λ (x : Book). book_bytes (changed t (change_of t call (own_of t x)) x)) same
      ∙ ap (λ (c : Change). book_bytes (changed t c b)) rules
      ∙ sym (ap book_bytes old_then.1)

pub old_refused : OldRefused
old_refused s t call undamaged = damaged_refused s t call (versions_apart s undamaged)

pub answered_as_before : AnsweredAsBefore
answered_as_before s t call undamaged given = as_answered s undamaged t call given

pub before_or_after : BeforeOrAfter
unfolding after_all answers_to after_all_before answers_before give_no_last
before_or_after s [] undamaged given = (undamaged, (refl, λ t. refl))
before_or_after s (m ∷ made) undamaged given =
    let first = and_first (gives_no_last m.call) (give_no_last made) given in
    let after = book_before m.tenant m.call s in
    let changes = as_changed s undamaged m.tenant m.call first in
    let rest = before_or_after after made (old_then s undamaged m.tenant m.call first).0 (and_second (gives_no_last m.call) (give_no_last made) given) in (
      rest.0,
      (
        ap (after_all made) changes ∙ rest.1.0,
        λ t.
            ap₂ (λ (a : Answer) (l : List Answer). cond (eqb m.tenant t) (a ∷ l) l)
            (as_answered s undamaged m.tenant m.call first)
            (ap (answers_to t made) changes ∙ rest.1.1 t),
      ),
    )
