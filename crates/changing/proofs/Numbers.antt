-- The number of what the house and a tenant are answered is the change's, and the tenant's answer is the house's without how many records moved.
-- Assumes nothing.
use mathlib.Core.Path.{◌≡◌, refl}
use mathlib.Core.List.{List}
use Prim.Native.Nat.{ℕ}
use Rattle.forms.specs.Refusals.{refusal_number, done_or}
use Rattle.tenants.specs.Rules.{Change, enters, withdraws, sets, nothing, refuses, change_number, change_answer}
use Rattle.changing.specs.House.{house_answer}

-- what a tenant is answered has the change's number
pub answer_number : (change : Change) → refusal_number (change_answer change) ≡ change_number change
answer_number (enters cell) = refl
answer_number (withdraws name) = refl
answer_number (sets days) = refl
answer_number nothing = refl
answer_number (refuses r) = refl

-- and so has what the house is answered
pub same_number : (t : ℕ) (s : List ℕ) (change : Change) → refusal_number (house_answer t s change) ≡ change_number change
same_number t s (enters cell) = refl
same_number t s (withdraws name) = refl
same_number t s (sets days) = refl
same_number t s nothing = refl
same_number t s (refuses r) = refl

-- without how many records moved it is the tenant's answer
pub same_answer : (t : ℕ) (s : List ℕ) (change : Change) → done_or (house_answer t s change) ≡ change_answer change
same_answer t s (enters cell) = refl
same_answer t s (withdraws name) = refl
same_answer t s (sets days) = refl
same_answer t s nothing = refl
same_answer t s (refuses r) = refl
