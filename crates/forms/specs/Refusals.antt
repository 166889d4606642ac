-- The refusals, by the numbers of the rules.
use Rattle.std.specs.Prelude.{◌≡◌, cond, ℕ, List, [], ◌∷◌, eqb, Option, None, Some, Result, Ok, Err, ⊤}
use Rattle.forms.specs.declared.refusals.Refusal.{Refusal}
use Rattle.forms.specs.declared.refusals.Refusal.TheVariants.{NoLine, Shape, Check, Today, FileCrc, PermitCrc, HwId, Padding, Book, Tenant, Value, NotHeld, Quota, UserPermit, MId, Room, Register, TwoRows, Branch, Expiry}

-- each refusal's number
abbrev pub number_of : Refusal → ℕ
number_of NoLine = 11
number_of Shape = 12
number_of Check = 13
number_of Today = 14
number_of FileCrc = 16
number_of PermitCrc = 17
number_of HwId = 18
number_of Padding = 21
number_of Book = 101
number_of Tenant = 102
number_of Value = 103
number_of NotHeld = 104
number_of Quota = 105
number_of UserPermit = 106
number_of MId = 107
number_of Room = 108
number_of Register = 109
number_of TwoRows = 110
number_of Branch = 111
number_of Expiry = 112

-- every refusal, in the order of its numbers
abbrev pub refusals : List Refusal
refusals =
    NoLine
    ∷ Shape
    ∷ Check
    ∷ Today
    ∷ FileCrc
    ∷ PermitCrc
    ∷ HwId
    ∷ Padding
    ∷ Book
    ∷ Tenant
    ∷ Value
    ∷ NotHeld
    ∷ Quota
    ∷ UserPermit
    ∷ MId
    ∷ Room
    ∷ Register
    ∷ TwoRows
    ∷ Branch
    ∷ Expiry
    ∷ []

-- the one of some refusals that has a number, if one has it
abbrev pub refusal_among : List Refusal → ℕ → Option Refusal
refusal_among [] n = None
refusal_among (r ∷ more) n = cond (eqb (number_of r) n) (Some r) (refusal_among more n)

-- the refusal of a number, if it is one of the rules'
abbrev pub refusal_of : ℕ → Option Refusal
refusal_of n = refusal_among refusals n

-- a refusal where there is one; else nothing that a call could answer
abbrev pub Found : Option Refusal → Type 0
Found None = ⊤
Found (Some r) = Refusal

-- that refusal
abbrev pub found : (o : Option Refusal) → Found o
found None = tt
found (Some r) = r

-- refused by a number of the rules, as `refused (by 103)`; a number that they do not have is no refusal, and fits nowhere
abbrev pub by : (n : ℕ) → Found (refusal_of n)
by n = found (refusal_of n)

module _ {A : Type 0} where
  -- refused
  abbrev pub refused : Refusal → Result A Refusal
  refused r = Err r

  -- the number of an answer's refusal; 0 where it is none
  abbrev pub refusal_number : Result A Refusal → ℕ
  refusal_number (Ok x) = 0
  refusal_number (Err r) = number_of r

  -- done, or refused as an answer is
  abbrev pub done_or : Result A Refusal → Result ⊤ Refusal
  done_or (Ok x) = Ok tt
  done_or (Err r) = Err r

  -- what comes next where nothing is refused, and else what the refusal gives
  abbrev pub unless : Result ⊤ Refusal → (Refusal → A) → A → A
  unless (Ok done) given next = next
  unless (Err r) given next = given r

-- each refusal is that of its number
abbrev pub RefusalOfNumber : Type 0
RefusalOfNumber = (r : Refusal) → refusal_of (number_of r) ≡ Some r

-- and has the number that it is found by
abbrev pub NumberOfRefusal : Type 0
NumberOfRefusal = (n : ℕ) (r : Refusal) → refusal_of n ≡ Some r → number_of r ≡ n
