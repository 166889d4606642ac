-- However the tenants' calls are mixed, each gets the answers of its own calls, and a branch those that its calls and its principal's changes give together.
-- Assumes nothing.
use mathlib.Core.Path.{◌≡◌, refl, sym, ap, ap₂, ◌∙◌}
use mathlib.Core.Bool.{true, false, not}
use mathlib.Core.List.{List, [], ◌∷◌}
use Prim.Native.Nat.{ℕ}
use borrow.Author.Tests.{eq-eqb, ne_eqb, eqb-true, not-true}
use lib.Dec.{eqb}
use Rattle.octets.proofs.Every.{and_first, and_second, either}
use Rattle.tenants.specs.Rules.{Own, Change, names_none}
use Rattle.tenants.specs.Calls.{Answer, change_of, answer_of}
use Rattle.tenants.specs.Alone.{Made, calls_of, after, answers_alone}
use Rattle.tenants.specs.Branches.{changes_cells, changes, calls_on, as_kept, answers_together, is_quiet}
use Rattle.tenants.specs.Together.{Book, setting_of, list_of, own_of, changed}
use Rattle.tenants.proofs.Ordered.{equal_or_not}
use Rattle.tenants.proofs.Goodness.{Good}
use Rattle.tenants.proofs.Kept.{own_list, quota_stays, none_stays, list_stays}
use Rattle.tenants.proofs.Branches.{own_after, own_stays, own_left, branch_after}
use Rattle.tenants.proofs.MixedLists.{next, answers, good_next}

module _ (t : ℕ) where
  own_next : (m : Made) (book : Book) → Good book → m.tenant ≡ t → own_of t (next m book) ≡ after (change_of t m.call (own_of t book)) (own_of t book)
  own_next m book good mine =
      ap (λ (u : ℕ). own_of t (changed u (change_of u m.call (own_of u book)) book)) mine ∙ own_after book good t m.call

  -- a call of another that does not change the cells of its list leaves what is its own
  other_next : (m : Made) (book : Book) → Good book → (m.tenant ≡ t → ⊥) → changes (list_of t book) m ≡ false → own_of t (next m book) ≡ own_of t book
  other_next m book good other leaves =
      equal_or_not m.tenant (list_of t book)
      (λ keeper. own_left book good t m.tenant m.call (λ e. other (sym e)) (rw (eq-eqb m.tenant (list_of t book) keeper) at leaves))
      (λ apart. own_stays book good t m.tenant m.call (λ e. other (sym e)) (λ e. apart (sym e)))

  -- one of its principal that does changes them as on one list
  changed-next : (m : Made) (book : Book) → Good book → (m.tenant ≡ t → ⊥) → changes (list_of t book) m ≡ true
      → own_of t (next m book)
      ≡ after (change_of (list_of t book) m.call (as_kept (setting_of (list_of t book) book).quota (own_of t book))) (own_of t book)
  changed-next m book good other does =
      let keeper : m.tenant ≡ list_of t book = eqb-true m.tenant (list_of t book) (and_first (eqb m.tenant (list_of t book)) (changes_cells m.call) does) in
      branch_after book good t m.tenant m.call (λ e. other (sym e)) (sym keeper)
      (and_second (eqb m.tenant (list_of t book)) (changes_cells m.call) does)
      ∙ ap (λ (u : ℕ). after (change_of u m.call (as_kept (setting_of u book).quota (own_of t book))) (own_of t book)) keeper

  first_answer : (m : Made) (book : Book) → m.tenant ≡ t → answer_of m.tenant m.call (own_of m.tenant book) ≡ answer_of t m.call (own_of t book)
  first_answer m book mine = ap (λ (u : ℕ). answer_of u m.call (own_of u book)) mine

  -- its principal, if it has one, changes no cells of its list
  abbrev Quiet : List Made → Book → Type 0
  Quiet made book = names_none (setting_of t book) ≡ false → is_quiet (list_of t book) made ≡ true

  module _ (m : Made) (made : List Made) (book : Book) (quiet : Quiet (m ∷ made) book) where
    quiet-first : (m.tenant ≡ t → ⊥) → changes (list_of t book) m ≡ false
    unfolding is_quiet
    quiet-first other =
        either (names_none (setting_of t book))
        (λ none. rw (own_list t book none, ne_eqb m.tenant t other))
        (λ branch. not-true (changes (list_of t book) m) (and_first (not (changes (list_of t book) m)) (is_quiet (list_of t book) made) (quiet branch)))

    quiet-rest : Quiet made (next m book)
    unfolding is_quiet
    quiet-rest branch =
        let change : Change = change_of m.tenant m.call (own_of m.tenant book) in
        rw (list_stays m.tenant book t change)
        (and_second (not (changes (list_of t book) m)) (is_quiet (list_of t book) made) (quiet (sym (none_stays m.tenant book t change) ∙ branch)))

  -- its answers are then those of its own calls alone
  pub own_answers_lem : (made : List Made) (book : Book) → Good book → Quiet made book → answers t made book ≡ answers_alone t (calls_of t made) (own_of t book)
  unfolding answers answers_alone calls_of
  own_answers_lem [] book good quiet = refl
  own_answers_lem (m ∷ made) book good quiet =
      let rest = own_answers_lem made (next m book) (good_next m book good) (quiet-rest m made book quiet) in
      equal_or_not m.tenant t
      (λ mine. rw (eq-eqb m.tenant t mine)
      (ap₂ (λ (a : Answer) (l : List Answer). a ∷ l) (first_answer m book mine)
      (rest ∙ ap (answers_alone t (calls_of t made)) (own_next m book good mine))))
      (λ other. rw (ne_eqb m.tenant t other)
      (rest ∙ ap (answers_alone t (calls_of t made)) (other_next m book good other (quiet-first m made book quiet other))))

  -- and in any case those that its calls and the changes of its list's keeper give together
  pub together : (made : List Made) (book : Book) → Good book → (list quota : ℕ) → list_of t book ≡ list → (setting_of list book).quota ≡ quota
      → answers t made book ≡ answers_together t list (calls_on t list made) quota (own_of t book)
  unfolding answers answers_together calls_on
  together [] book good list quota is has = refl
  together (m ∷ made) book good list quota is has =
      let change : Change = change_of m.tenant m.call (own_of m.tenant book) in
      let rest = together made (next m book) (good_next m book good) list quota
      (list_stays m.tenant book t change ∙ is) (quota_stays m.tenant book list change ∙ has) in
      let following : Own → List Answer = λ own. answers_together t list (calls_on t list made) quota own in
      equal_or_not m.tenant t
      (λ mine. rw (eq-eqb m.tenant t mine, eq-eqb m.tenant t mine)
      (ap₂ (λ (a : Answer) (l : List Answer). a ∷ l) (first_answer m book mine) (rest ∙ ap following (own_next m book good mine))))
      (λ other. rw (ne_eqb m.tenant t other)
      (either (changes list m)
      (λ does. rw (does, ne_eqb m.tenant t other)
      (rest ∙ ap following (rw (is, has) at (changed-next m book good other (rw is does)))))
      (λ leaves. rw leaves (rest ∙ ap following (other_next m book good other (rw is leaves))))))
