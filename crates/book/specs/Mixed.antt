-- What the book promises of many calls, however those of the tenants are mixed.
use Rattle.std.specs.Prelude.{◌≡◌, true, false, cond, List, [], ◌∷◌, ◌++◌, ℕ, eqb}
use Rattle.tenants.specs.Rules.{names_none}
use Rattle.tenants.specs.Calls.{Call, Answer}
use Rattle.tenants.specs.Alone.{Made, calls_of, answers_alone}
use Rattle.tenants.specs.Branches.{calls_on, answers_together, is_quiet}
use Rattle.layout.specs.Layout.{is_book, list_in, own_in}
use Rattle.book.specs.OnBook.{answer_in, book_after}

-- the book after all calls
unfoldable pub after_all : List Made → List ℕ → List ℕ
after_all [] s = s
after_all (m ∷ made) s = after_all made (book_after m.tenant m.call s)

-- the answers that tenant t gets among them
unfoldable pub answers_to : ℕ → List Made → List ℕ → List Answer
answers_to t [] s = []
answers_to t (m ∷ made) s =
    cond (eqb m.tenant t)
    (answer_in m.tenant m.call s ∷ answers_to t made (book_after m.tenant m.call s))
    (answers_to t made (book_after m.tenant m.call s))

-- tenant t is a branch
abbrev pub IsBranch : List ℕ → ℕ → Type 0
IsBranch s t = names_none (own_in s t).setting ≡ false

-- the calls that tenant t's answers go by: its own, and for a branch its principal's that enter and withdraw
abbrev pub heard_by : List ℕ → ℕ → List Made → List Made
heard_by s t made = calls_on t (list_in s t) made

-- each tenant's own calls stand in the same order in both
abbrev pub SameOwnCalls : List Made → List Made → Type 0
SameOwnCalls some others = (t : ℕ) → calls_of t some ≡ calls_of t others

-- and where tenant t is a branch, its calls and its principal's enter and withdraw calls among themselves
abbrev pub SameOrder : List ℕ → ℕ → List Made → List Made → Type 0
SameOrder s t some others = IsBranch s t → heard_by s t some ≡ heard_by s t others

-- mixing: the final books are equal to the last byte, in whatever order a branch's calls and its principal's stand
abbrev pub Mixing : Type 0
Mixing = (s : List ℕ) (some others : List Made) → is_book s ≡ true → SameOwnCalls some others → after_all some s ≡ after_all others s

-- own answers: a tenant's answers and outputs are those of its own calls alone, by the rules for one list; a principal's whatever its branches do,
-- and a branch's where its principal neither enters nor withdraws
abbrev pub OwnAnswers : Type 0
OwnAnswers =
    (s : List ℕ) (made : List Made) (t : ℕ) → is_book s ≡ true → (IsBranch s t → is_quiet (list_in s t) made ≡ true)
    → answers_to t made s ≡ answers_alone t (calls_of t made) (own_in s t)

-- a branch's answers: those that its calls and its principal's enter and withdraw calls give together in that order, by the rules for one list
abbrev pub BranchAnswers : Type 0
BranchAnswers =
    (s : List ℕ) (made : List Made) (t : ℕ) → is_book s ≡ true → IsBranch s t
    → answers_to t made s ≡ answers_together t (list_in s t) (heard_by s t made) (own_in s (list_in s t)).setting.quota (own_in s t)

-- same answers: a tenant gets equal answers and outputs where its own order is kept; if another's is broken, that changes nothing for it
abbrev pub SameAnswers : Type 0
SameAnswers =
    (s : List ℕ) (some others : List Made) (t : ℕ) → is_book s ≡ true → SameOwnCalls some others → SameOrder s t some others
    → answers_to t some s ≡ answers_to t others s

-- so where every order is kept, the books and all answers are equal
abbrev pub MixingInOrder : Type 0
MixingInOrder =
    (s : List ℕ) (some others : List Made) → is_book s ≡ true → SameOwnCalls some others → ((t : ℕ) → SameOrder s t some others)
    → (after_all some s ≡ after_all others s) × ((t : ℕ) → answers_to t some s ≡ answers_to t others s)

-- neither of two tenants is the other's principal: they share no list, or are two branches of one
pub record Apart (s : List ℕ) (t u : ℕ) : Type 0 where
  pub two : t ≡ u → ⊥
  pub no_branch : list_in s t ≡ u → ⊥
  pub no_principal : list_in s u ≡ t → ⊥

-- their calls may change places: the final books and all answers are equal
abbrev pub PlacesChanged : Type 0
PlacesChanged =
    (s : List ℕ) (before after : List Made) (m k : Made) → is_book s ≡ true → Apart s m.tenant k.tenant
    → (after_all (before ++ (m ∷ (k ∷ after))) s ≡ after_all (before ++ (k ∷ (m ∷ after))) s)
    × ((t : ℕ) → answers_to t (before ++ (m ∷ (k ∷ after))) s ≡ answers_to t (before ++ (k ∷ (m ∷ after))) s)

-- two books agree on all that tenant t's answers may depend on: its own cells, its quota, its warning days, its Data Server ID, and whether it is
-- a branch
pub record SameOwn (s s' : List ℕ) (t : ℕ) : Type 0 where
  pub cells : (own_in s t).cells ≡ (own_in s' t).cells
  pub quota : (own_in s t).setting.quota ≡ (own_in s' t).setting.quota
  pub days : (own_in s t).setting.days ≡ (own_in s' t).setting.days
  pub server : (own_in s t).setting.server ≡ (own_in s' t).setting.server
  pub branch : names_none (own_in s t).setting ≡ names_none (own_in s' t).setting

-- nothing else: two undamaged books that agree on these give it equal answers and outputs
abbrev pub NothingElse : Type 0
NothingElse =
    (s s' : List ℕ) (t : ℕ) (call : Call) → is_book s ≡ true → is_book s' ≡ true → SameOwn s s' t
    → answer_in t call s ≡ answer_in t call s'
