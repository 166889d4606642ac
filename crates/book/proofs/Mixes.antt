-- However the tenants' calls are mixed, the book in the end is the same to the last byte, each tenant has the answers of its own calls alone, and a
-- branch those that its calls and its principal's changes give together.
-- Assumes nothing.
use mathlib.Core.Path.{◌≡◌, refl, sym, ap, ap₂, ◌∙◌}
use mathlib.Core.Bool.{true, cond}
use mathlib.Core.List.{List, [], ◌∷◌}
use Prim.Native.Nat.{ℕ}
use lib.Dec.{eqb}
use Rattle.octets.proofs.Every.{either, never_both}
use Rattle.tenants.specs.Rules.{names_none}
use Rattle.tenants.specs.Calls.{Call, Answer}
use Rattle.tenants.specs.Alone.{Made, calls_of, answers_alone}
use Rattle.tenants.specs.Branches.{answers_together}
use Rattle.tenants.specs.Together.{own_of}
use Rattle.tenants.proofs.Depends.{same_answer}
use Rattle.tenants.proofs.MixedLists.{run, answers, same_run}
use Rattle.tenants.proofs.MixedAnswers as lists
use Rattle.layout.specs.Layout.{book_bytes, book_of, is_book, list_in, own_in}
use Rattle.layout.proofs.Promises.{good, written_so}
use Rattle.book.specs.OnBook.{book_after}
use Rattle.book.specs.Mixed.{
  after_all,
  answers_to,
  heard_by,
  Mixing,
  OwnAnswers,
  BranchAnswers,
  SameAnswers,
  MixingInOrder,
  NothingElse,
}
use Rattle.book.proofs.Undamaged.{answer_says, still_undamaged, book_after_lem}

-- all calls on the bytes are all calls on the book that they say
run_says : (made : List Made) (s : List ℕ) → is_book s ≡ true → after_all made s ≡ book_bytes (run made (book_of s))
unfolding after_all run
run_says [] s undamaged = sym (written_so s undamaged)
run_says (m ∷ made) s undamaged =
    run_says made (book_after m.tenant m.call s) (still_undamaged s m.tenant m.call undamaged)
    ∙ ap (λ book. book_bytes (run made book)) (book_after_lem s m.tenant m.call undamaged)

answers_say : (t : ℕ) (made : List Made) (s : List ℕ) → is_book s ≡ true → answers_to t made s ≡ answers t made (book_of s)
unfolding answers_to answers
answers_say t [] s undamaged = refl
answers_say t (m ∷ made) s undamaged =
    ap₂ (λ (a : Answer) (l : List Answer). cond (eqb m.tenant t) (a ∷ l) l)
    (answer_says s m.tenant undamaged m.call)
    (answers_say t made (book_after m.tenant m.call s) (still_undamaged s m.tenant m.call undamaged)
    ∙ ap (answers t made) (book_after_lem s m.tenant m.call undamaged))

pub mixing : Mixing
mixing s some others undamaged same =
    run_says some s undamaged ∙ ap book_bytes (same_run some others (book_of s) (good s undamaged) same) ∙ sym (run_says others s undamaged)

pub own_answers_lem : OwnAnswers
unfolding own_of
own_answers_lem s made t undamaged quiet = answers_say t made s undamaged ∙ lists.own_answers_lem t made (book_of s) (good s undamaged) quiet

-- of any tenant: what it is answered goes by the calls that it hears
heard_answers : (s : List ℕ) (made : List Made) (t : ℕ) → is_book s ≡ true
    → answers_to t made s ≡ answers_together t (list_in s t) (heard_by s t made) (own_in s (list_in s t)).setting.quota (own_in s t)
unfolding own_of
heard_answers s made t undamaged = answers_say t made s undamaged ∙ lists.together t made (book_of s) (good s undamaged) (list_in s t) _ refl refl

pub branch_answers : BranchAnswers
branch_answers s made t undamaged branch = heard_answers s made t undamaged

pub same_answers : SameAnswers
same_answers s some others t undamaged same order =
    either (names_none (own_in s t).setting)
    (λ none.
    let alone : (made : List Made) → answers_to t made s ≡ answers_alone t (calls_of t made) (own_in s t)
    = λ made. own_answers_lem s made t undamaged (λ branch. absurd (never_both (names_none (own_in s t).setting) branch none)) in
    alone some ∙ ap (λ (calls : List Call). answers_alone t calls (own_in s t)) (same t) ∙ sym (alone others))
    (λ branch.
    heard_answers s some t undamaged
    ∙ ap (λ (heard : List Made). answers_together t (list_in s t) heard (own_in s (list_in s t)).setting.quota (own_in s t)) (order branch)
    ∙ sym (heard_answers s others t undamaged))

pub mixing_in_order : MixingInOrder
mixing_in_order s some others undamaged same orders =
    (mixing s some others undamaged same, λ t. same_answers s some others t undamaged same (orders t))

pub nothing_else_lem : NothingElse
nothing_else_lem s s' t call undamaged undamaged' same =
    answer_says s t undamaged call
    ∙ same_answer t (own_in s t) (own_in s' t) same.quota same.days same.server same.branch same.cells call
    ∙ sym (answer_says s' t undamaged' call)
