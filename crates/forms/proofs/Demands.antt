-- What is demanded: what holds of a refusal and of what follows holds of both in their order, and what does not hold of the refusal was not refused.
-- Assumes nothing.
use mathlib.Core.Path.{◌≡◌, refl}
use mathlib.Core.Bool.{Bool, true, false}
use Rattle.std.specs.Prelude.{Result, Ok, Err, ⊤}
use Rattle.forms.specs.Order.{demand}
use Rattle.forms.specs.Refusals.{unless}
use Rattle.forms.specs.declared.refusals.Refusal.{Refusal}

pub demanded {ℓ} : {A : Type 0} (P : A → Type ℓ) (test : Bool) (a b : A) → P a → (test ≡ true → P b) → P (demand test a b)
demanded P true a b pa pb = pb refl
demanded P false a b pa pb = pa

pub passed {ℓ} : {A : Type 0} (P : A → Type ℓ) (test : Bool) (a b : A) → (P a → ⊥) → P (demand test a b) → (test ≡ true) × P b
passed P true a b refused met = (refl, met)
passed P false a b refused met = absurd (refused met)

-- and the same of an answer that comes first: of each refusal, and of what follows where it refuses nothing
pub unless_refused {ℓ} : {A : Type 0} (P : A → Type ℓ) (first : Result ⊤ Refusal) (given : Refusal → A) (next : A)
    → ((r : Refusal) → first ≡ Err r → P (given r)) → (first ≡ Ok tt → P next) → P (unless first given next)
unless_refused P (Ok tt) given next refused passed = passed refl
unless_refused P (Err r) given next refused passed = refused r refl

pub unless_passed {ℓ} : {A : Type 0} (P : A → Type ℓ) (first : Result ⊤ Refusal) (given : Refusal → A) (next : A)
    → ((r : Refusal) → P (given r) → ⊥) → P (unless first given next) → (first ≡ Ok tt) × P next
unless_passed P (Ok tt) given next refused met = (refl, met)
unless_passed P (Err r) given next refused met = absurd (refused r met)
