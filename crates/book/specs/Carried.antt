-- What the book promises of carrying over: whether a version 1 book is carried over before or after its calls, the answers and the book are the same.
use Rattle.std.specs.Prelude.{◌≡◌, Bool, true, cond, ◌&&◌, List, [], ◌∷◌, ℕ, eqb}
use Rattle.tenants.specs.Rules.{Own}
use Rattle.tenants.specs.Calls.{Call, Answer, answer_number}
use Rattle.tenants.specs.Alone.{Made}
use Rattle.tenants.specs.Together.{own_of, changed}
use Rattle.tenants.specs.Version1.{gives_no_last, change_before, answer_before}
use Rattle.layout.specs.Layout.{one, book_bytes_by, book_of_by, is_book_by}
use Rattle.carrying.specs.Carrying.{carried}
use Rattle.book.specs.OnBook.{answer_in}
use Rattle.book.specs.Mixed.{after_all, answers_to}

-- what is tenant t's own in a version 1 book
abbrev pub own_before : List ℕ → ℕ → Own
own_before s t = own_of t (book_of_by one s)

-- the bytes of a version 1 book after a call, by version 1's rules
abbrev pub book_before : ℕ → Call → List ℕ → List ℕ
book_before t call s = book_bytes_by one (changed t (change_before t call (own_before s t)) (book_of_by one s))

-- and after all calls
unfoldable pub after_all_before : List Made → List ℕ → List ℕ
after_all_before [] s = s
after_all_before (m ∷ made) s = after_all_before made (book_before m.tenant m.call s)

-- the answers that tenant t got among them
unfoldable pub answers_before : ℕ → List Made → List ℕ → List Answer
answers_before t [] s = []
answers_before t (m ∷ made) s =
    cond (eqb m.tenant t)
    (answer_before m.tenant m.call (own_before s m.tenant) ∷ answers_before t made (book_before m.tenant m.call s))
    (answers_before t made (book_before m.tenant m.call s))

-- each is a call of version 1
unfoldable pub give_no_last : List Made → Bool
give_no_last [] = true
give_no_last (m ∷ made) = gives_no_last m.call && give_no_last made

-- a version 1 book is 101 to every tenant call, as a damaged one is
abbrev pub OldRefused : Type 0
OldRefused = (s : List ℕ) (t : ℕ) (call : Call) → is_book_by one s ≡ true → answer_number (answer_in t call s) ≡ 101

-- on a book that was carried over a call of version 1 is answered what it was answered before
abbrev pub AnsweredAsBefore : Type 0
AnsweredAsBefore =
    (s : List ℕ) (t : ℕ) (call : Call) → is_book_by one s ≡ true → gives_no_last call ≡ true → answer_in t call (carried s) ≡ answer_before t call (own_before s t)

-- carried over before or after any calls of version 1: the book is the same to the last byte, and so are all answers
abbrev pub BeforeOrAfter : Type 0
BeforeOrAfter =
    (s : List ℕ) (made : List Made) → is_book_by one s ≡ true → give_no_last made ≡ true
    → (is_book_by one (after_all_before made s) ≡ true)
    × ((after_all made (carried s) ≡ carried (after_all_before made s))
    × ((t : ℕ) → answers_to t made (carried s) ≡ answers_before t made s))
