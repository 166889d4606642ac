-- What each service level does to the notice. Assumes nothing.
use mathlib.Core.Path.{◌≡◌, refl, ap}
use Prim.Native.Nat.{ℕ, zero, suc}
use native.Mathlib.Omega.{arith}
use borrow.Author.Tests.{eq-eqb, ne_eqb}
use lib.IntN.{ℤ}
use Rattle.dates.specs.Notice.{subscription_notice, notice_of, notice_number}
use Rattle.dates.specs.declared.Notice.TheVariants.{Current}

module _ (level : ℕ) (left : ℤ) (days : ℕ) where
  pub subscription : level ≡ 0 → notice_of level left days ≡ subscription_notice left days
  unfolding notice_of
  subscription none = rw (eq-eqb level 0 none)

  pub no_subscription : (level ≡ 0 → ⊥) → notice_of level left days ≡ Current
  unfolding notice_of
  no_subscription some = rw (ne_eqb level 0 some)

-- what is not current is a subscription
pub not_current : (level : ℕ) (left : ℤ) (days : ℕ) → (notice_number (notice_of level left days) ≡ 0 → ⊥) → level ≡ 0
not_current zero left days warned = refl
not_current (suc k) left days warned =
    absurd (warned (ap notice_number (no_subscription (suc k) left days (λ none. omega (arith, none)))))
