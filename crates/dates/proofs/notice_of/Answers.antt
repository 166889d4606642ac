-- `dates::notice_of` meets its contract: a level above 0 is current, and for level 0 the days left give their notice. Assumes nothing.
use mathlib.Core.Path.{◌≡◌, refl, sym}
use mathlib.Core.Bool.{cond}
use Prim.Native.Nat.{ℕ}
use native.Mathlib.Omega.{arith}
use borrow.Author.Tests.{lt-ltb, le-ltb}
use lib.Dec.{ltb}
use lib.IntN.{ℤ, pos, negsuc, nat_abs}
use mir.Syntax.{w32}
use mir.Val.{SFits}
use Rattle.std.proofs.Common.{rules}
use Rattle.std.specs.Int.{FitsUnsignedBits}
use Rattle.std.proofs.lemmas.Int.{ints, to_z-of_z}
use Rattle.dates.specs.Notice.{days_left, subscription_notice, notice_of}
use Rattle.dates.specs.declared.Notice.TheVariants.{Current, Soon, Expired}
use Rattle.dates.proofs.Levels.{subscription}
use Rattle.dates.proofs.notice_of.Goals as goal
use Rattle.dates.proofs.notice_of.Goals.{In-Ok}

-- a number that no unsigned one is, though it fits, is below zero
passed : (left : ℤ) (days : ℕ) → SFits w32 left → (FitsUnsignedBits 32 left → ⊥) → subscription_notice left days ≡ Expired
unfolding subscription_notice
passed (pos n) days fits not = absurd (not (omega (arith, ints, fits)))
passed (negsuc n) days fits not = refl

not-passed : (left : ℤ) (n : ℕ) → FitsUnsignedBits 32 left × (n ≡ nat_abs left) → left ≡ pos n
not-passed (pos k) n is = rw is.1
not-passed (negsuc k) n is = absurd is.0

pub returns-in_default : goal.returns-in_default
returns-in_default c =
    let fits : SFits w32 c.days_left.result = search rules in
    let below = simp to_z-of_z at c.in_default.ensures in
    rw (subscription c.args.level _ _ (omega arith), ← c.days_left.ensures) (sym (passed _ _ fits below))

-- the days left are the number that was read of them
module _ (c : In-Ok) where
  soon_or_not : notice_of c.args.level (days_left c.args.today c.args.expiry) c.args.days ≡ cond (ltb c.in-Ok.left c.args.days) Soon Current
  unfolding subscription_notice
  soon_or_not =
      let fits : SFits w32 c.days_left.result = search rules in
      let is = not-passed _ _ (simp to_z-of_z at c.in-Ok.ensures) in
      rw (← c.days_left.ensures, subscription c.args.level _ _ (omega arith), is)

pub returns-then-left-days : goal.returns-then-left-days
returns-then-left-days c = rw (soon_or_not (goal.at.returns-then-left-days c).In-Ok, lt-ltb _ _ c.if-left-days.true)

pub returns-else-left-days : goal.returns-else-left-days
returns-else-left-days c = rw (soon_or_not (goal.at.returns-else-left-days c).In-Ok, le-ltb _ _ c.if-left-days.false)
