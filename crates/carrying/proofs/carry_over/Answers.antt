-- `carrying::carry_over` meets its contract: what has the form is undamaged exactly where the book is that is written of it.
-- Assumes nothing.
use mathlib.Core.Path.{◌≡◌, refl, sym, ap, ◌∙◌}
use mathlib.Core.Bool.{true}
use mathlib.Core.List.{List}
use Prim.Native.Nat.{ℕ}
use native.Mathlib.Omega.{arith}
use Rattle.octets.specs.Numbers.{Below}
use Rattle.text.specs.Texts.{placed}
use Rattle.layout.specs.Layout.{one, is_book_by, is_book}
use Rattle.judging.specs.Judging.{form_test}
use Rattle.judging.proofs.Forms.{form_facts}
use Rattle.carrying.proofs.Wider.{wider_is}
use Rattle.carrying.proofs.OldBooks.{old_frame, old_judged, is_damaged, no_form, wrong_size, is_carried}
use Rattle.carrying.proofs.carry_over.Goals as goal
use Rattle.carrying.proofs.carry_over.Goals.{After-is_book, Else-not-has_old_form}

pub returns-then-not-has_old_form : goal.returns-then-not-has_old_form
returns-then-not-has_old_form c = no_form _ _ (sym c.has_old_form.ensures ∙ c.if-not-has_old_form.true)

-- the version 1 book has its form
module _ (c : Else-not-has_old_form) where
  abbrev book : List ℕ
  book = c.args.book.now

  formed : form_test one book ≡ true
  formed = sym c.has_old_form.ensures ∙ c.if-not-has_old_form.false

  below : Below 256 book
  below k = omega (arith, c.type_inv.book k)

pub put_book-requires : goal.put_book-requires
put_book-requires c = (formed (goal.at.put_book-requires c).Else-not-has_old_form, refl)

-- what judging the written book finds is found of the version 1 book
judged : (c : After-is_book) → let form = (goal.at.After-is_book c).Else-not-has_old_form in c.is_book.result ≡ is_book_by one (book form)
judged c =
    let form = (goal.at.After-is_book c).Else-not-has_old_form in
    c.is_book.ensures ∙ ap is_book c.put_book.ensures ∙ old_judged (book form) (below form) (formed form)

pub returns-then-not-is_book : goal.returns-then-not-is_book
returns-then-not-is_book c = is_damaged _ _ (sym (judged (goal.at.returns-then-not-is_book c).After-is_book) ∙ c.if-not-is_book.true)

pub returns-then-new-ne-BOOK_SIZE : goal.returns-then-new-ne-BOOK_SIZE
returns-then-new-ne-BOOK_SIZE c = wrong_size _ _ (sym (judged (goal.at.returns-then-new-ne-BOOK_SIZE c).After-is_book) ∙ c.if-not-is_book.false) c.if-new-ne-BOOK_SIZE.true

pub returns : goal.returns
returns c =
    let found = (goal.at.returns c).After-is_book in
    let lent : List ℕ = c.args.new.now in
    let form = (goal.at.returns c).Else-not-has_old_form in
    let undamaged : is_book_by one (book form) ≡ true = sym (judged found) ∙ c.if-not-is_book.false in
    is_carried _ _ undamaged c.if-new-ne-BOOK_SIZE.false _
    (c.put_text.ensures
    ∙ ap (λ (t : List ℕ). placed 0 t lent)
    (c.put_book.ensures ∙ wider_is (book form) (below form) (form_facts one (book form) (formed form)) (old_frame (book form) undamaged)))
