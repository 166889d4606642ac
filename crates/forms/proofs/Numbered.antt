-- Each refusal is that of its number, by its twenty cases, and has it; none has 0. Assumes nothing.
use Rattle.std.specs.Prelude.{cond, Bool, true, false, ℕ, List, [], ◌∷◌, eqb, Option, Some, Result, Ok, Err, ⊤}
use Rattle.std.proofs.Common.{◌≡◌, refl, sym}
use Rattle.std.proofs.lemmas.Option.{same_Some}
use borrow.Author.Tests.{eqb-true}
use Rattle.forms.specs.Refusals.{number_of, refusals, refusal_among, refusal_number, RefusalOfNumber, NumberOfRefusal}
use Rattle.forms.specs.declared.refusals.Refusal.{Refusal}
use Rattle.forms.specs.declared.refusals.Refusal.TheVariants.{NoLine, Shape, Check, Today, FileCrc, PermitCrc, HwId, Padding, Book, Tenant, Value, NotHeld, Quota, UserPermit, MId, Room, Register, TwoRows, Branch, Expiry}

pub refusal_of_number : RefusalOfNumber
refusal_of_number NoLine = refl
refusal_of_number Shape = refl
refusal_of_number Check = refl
refusal_of_number Today = refl
refusal_of_number FileCrc = refl
refusal_of_number PermitCrc = refl
refusal_of_number HwId = refl
refusal_of_number Padding = refl
refusal_of_number Book = refl
refusal_of_number Tenant = refl
refusal_of_number Value = refl
refusal_of_number NotHeld = refl
refusal_of_number Quota = refl
refusal_of_number UserPermit = refl
refusal_of_number MId = refl
refusal_of_number Room = refl
refusal_of_number Register = refl
refusal_of_number TwoRows = refl
refusal_of_number Branch = refl
refusal_of_number Expiry = refl

-- what a test finds, or what is found after it
listed : (test : Bool) (r : Refusal) (more : Option Refusal) (n : ℕ) (s : Refusal) → (test ≡ true → number_of r ≡ n)
    → (more ≡ Some s → number_of s ≡ n) → cond test (Some r) more ≡ Some s → number_of s ≡ n
listed true r more n s here there found = let e : r ≡ s = same_Some _ _ found in rw (sym e) (here refl)
listed false r more n s here there found = there found

-- one that is found by a number has it
among : (rs : List Refusal) (n : ℕ) (s : Refusal) → refusal_among rs n ≡ Some s → number_of s ≡ n
among [] n s found = cc
among (r ∷ more) n s found =
    listed (eqb (number_of r) n) r (refusal_among more n) n s (λ here. eqb-true (number_of r) n here) (λ there. among more n s there) found

pub number_of_refusal : NumberOfRefusal
number_of_refusal n r found = among refusals n r found

-- no refusal has the number 0
pub has_number : (r : Refusal) → number_of r ≡ 0 → ⊥
has_number NoLine = λ none. cc
has_number Shape = λ none. cc
has_number Check = λ none. cc
has_number Today = λ none. cc
has_number FileCrc = λ none. cc
has_number PermitCrc = λ none. cc
has_number HwId = λ none. cc
has_number Padding = λ none. cc
has_number Book = λ none. cc
has_number Tenant = λ none. cc
has_number Value = λ none. cc
has_number NotHeld = λ none. cc
has_number Quota = λ none. cc
has_number UserPermit = λ none. cc
has_number MId = λ none. cc
has_number Room = λ none. cc
has_number Register = λ none. cc
has_number TwoRows = λ none. cc
has_number Branch = λ none. cc
has_number Expiry = λ none. cc

-- so an answer of the number 0 refuses nothing
pub none_refused : (a : Result ⊤ Refusal) → refusal_number a ≡ 0 → a ≡ Ok tt
none_refused (Ok tt) none = refl
none_refused (Err r) none = absurd (has_number r none)
