-- What the house is answered when it enters and withdraws: the tenant's refusal, or how many records moved.
use Rattle.std.specs.Prelude.{List, ℕ, Result, Ok, Err}
use Rattle.forms.specs.Refusals.{refused}
use Rattle.forms.specs.declared.refusals.Refusal.{Refusal}
use Rattle.tenants.specs.Rules.{Change, enters, withdraws, sets, nothing, refuses}
use Rattle.tenants.specs.House.{moved_by}
use Rattle.layout.specs.Layout.{book_of}

-- how many records moved; none at a refusal
abbrev pub moved_records : Result ℕ Refusal → ℕ
moved_records (Ok n) = n
moved_records (Err r) = 0

-- what the house is answered to a change that tenant t makes in the book s
abbrev pub house_answer : ℕ → List ℕ → Change → Result ℕ Refusal
house_answer t s (enters cell) = Ok (moved_by t (enters cell) (book_of s))
house_answer t s (withdraws name) = Ok (moved_by t (withdraws name) (book_of s))
house_answer t s (sets days) = Ok (moved_by t (sets days) (book_of s))
house_answer t s nothing = Ok (moved_by t nothing (book_of s))
house_answer t s (refuses r) = refused r
