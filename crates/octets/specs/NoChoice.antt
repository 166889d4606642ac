-- Promises that leave no choice. A public function's promise says that its answer is this value, that what it was lent is then that, or both;
-- or that its answer is this part of what it was lent.
use Rattle.std.specs.Prelude.{◌≡◌, List, ℕ}
use Rattle.std.specs.Borrow.{Bor}

-- one thing is promised, an answer or what a lent slice then holds: two things that the promise allows are equal
abbrev pub NoChoiceOfOne : Type 1
NoChoiceOfOne = (A : Type 0) (promised a b : A) → a ≡ promised → b ≡ promised → a ≡ b

-- an answer and what a lent slice then holds
abbrev pub AnswerAndLent : {A : Type 0} → A → List ℕ → A → List ℕ → Type 0
AnswerAndLent answer lent a out = (a ≡ answer) × (out ≡ lent)

-- both are promised: two answers that the promise allows are equal, and so is every lent byte
abbrev pub NoChoiceOfBoth : Type 1
NoChoiceOfBoth =
    (A : Type 0) (answer a b : A) (lent out out' : List ℕ)
    → AnswerAndLent answer lent a out → AnswerAndLent answer lent b out' → (a ≡ b) × (out ≡ out')

-- a part of a lent slice: the bytes that it holds, and where it begins
abbrev pub PartOfLent : List ℕ → ℕ × ℕ → Bor (List ℕ) → Type 0
PartOfLent held point r = (r.now ≡ held) × (r.ref_ptr ≡ point)

-- a part is promised: two that the promise allows hold the same bytes and begin at the same place
abbrev pub NoChoiceOfPart : Type 0
NoChoiceOfPart =
    (held : List ℕ) (point : ℕ × ℕ) (r r' : Bor (List ℕ))
    → PartOfLent held point r → PartOfLent held point r' → (r.now ≡ r'.now) × (r.ref_ptr ≡ r'.ref_ptr)
