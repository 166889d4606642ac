-- However the tenants' calls are mixed, the book in the end is one: what each tenant keeps goes by its own calls alone.
-- Assumes nothing.
use mathlib.Core.Path.{◌≡◌, refl, sym, ap, ap₂, ◌∙◌}
use mathlib.Core.Bool.{cond}
use mathlib.Core.List.{List, [], ◌∷◌}
use Prim.Native.Nat.{ℕ}
use borrow.Author.Tests.{eq-eqb, ne_eqb}
use lib.Dec.{eqb}
use lib.Seq.{ext_get_or}
use Rattle.tenants.specs.declared.Setting.{Setting}
use Rattle.tenants.specs.Rules.{Own, Change}
use Rattle.tenants.specs.Calls.{Call, Answer, change_of, answer_of}
use Rattle.tenants.specs.Alone.{Made, calls_of, after, own_alone}
use Rattle.tenants.specs.Together.{BookRecord, Book, no_setting, own_of, changed}
use Rattle.tenants.proofs.Ordered.{equal_or_not}
use Rattle.tenants.proofs.OwnCells.{same_records}
use Rattle.tenants.proofs.Goodness.{Good}
use Rattle.tenants.proofs.Kept.{kept_of, by_kept}
use Rattle.tenants.proofs.Apart.{kept_after, other_after}
use Rattle.tenants.proofs.KeptGood.{good_call}

-- the book after a call, and after all of them
abbrev pub next : Made → Book → Book
next m book = changed m.tenant (change_of m.tenant m.call (own_of m.tenant book)) book

unfoldable pub run : List Made → Book → Book
run [] book = book
run (m ∷ made) book = run made (next m book)

-- the answers that tenant t gets on the way
unfoldable pub answers : ℕ → List Made → Book → List Answer
answers t [] book = []
answers t (m ∷ made) book =
    cond (eqb m.tenant t) (answer_of m.tenant m.call (own_of m.tenant book) ∷ answers t made (next m book)) (answers t made (next m book))

pub good_next : (m : Made) (book : Book) → Good book → Good (next m book)
good_next m book good = good_call m.tenant m.call book good

good_run : (made : List Made) (book : Book) → Good book → Good (run made book)
unfolding run
good_run [] book good = good
good_run (m ∷ made) book good = good_run made (next m book) (good_next m book good)

module _ (t : ℕ) where
  kept_next : (m : Made) (book : Book) → Good book → m.tenant ≡ t → kept_of t (next m book) ≡ after (change_of t m.call (kept_of t book)) (kept_of t book)
  kept_next m book good mine =
      ap (λ (u : ℕ). kept_of t (changed u (change_of u m.call (own_of u book)) book)) mine
      ∙ kept_after t m.call book good
      ∙ ap (λ (c : Change). after c (kept_of t book)) (by_kept t m.call book)

  pub other_next : (m : Made) (book : Book) → (m.tenant ≡ t → ⊥) → kept_of t (next m book) ≡ kept_of t book
  other_next m book other = other_after m.tenant t m.call book (λ e. other (sym e))

  -- what a tenant keeps in the end is what its own calls alone leave
  kept_run : (made : List Made) (book : Book) → Good book → kept_of t (run made book) ≡ own_alone t (calls_of t made) (kept_of t book)
  unfolding run own_alone calls_of
  kept_run [] book good = refl
  kept_run (m ∷ made) book good =
      let rest = kept_run made (next m book) (good_next m book good) in
      equal_or_not m.tenant t
      (λ mine. rw (eq-eqb m.tenant t mine) (rest ∙ ap (own_alone t (calls_of t made)) (kept_next m book good mine)))
      (λ other. rw (ne_eqb m.tenant t other) (rest ∙ ap (own_alone t (calls_of t made)) (other_next m book other)))

-- a book is what each tenant keeps in it
same_books : (book other : Book) → Good book → Good other → ((t : ℕ) → kept_of t book ≡ kept_of t other) → book ≡ other
same_books book other good good' equal =
    ap₂ (λ (s : List Setting) (l : List BookRecord). record { settings = s; records = l })
    (ext_get_or no_setting book.settings other.settings (good.sixteen ∙ sym good'.sixteen) (λ t _. ap (λ (o : Own). o.setting) (equal t)))
    (same_records book.records other.records good.sorted good'.sorted (λ t. ap (λ (o : Own). o.cells) (equal t)))

-- however the calls are mixed, the book in the end is one
pub same_run : (some others : List Made) (book : Book) → Good book → ((t : ℕ) → calls_of t some ≡ calls_of t others) → run some book ≡ run others book
same_run some others book good equal =
    same_books (run some book) (run others book) (good_run some book good) (good_run others book good)
    (λ t. kept_run t some book good ∙ ap (λ (calls : List Call). own_alone t calls (kept_of t book)) (equal t) ∙ sym (kept_run t others book good))
