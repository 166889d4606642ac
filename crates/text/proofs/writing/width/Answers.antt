-- `text::writing::width` meets its contract. The loop's invariant: n, one of which is of the rest, and the digits of the rest make the width.
-- Assumes nothing.
use Rattle.std.proofs.Common.{◌≡◌, ℕ, zero, suc, ◌+◌, ◌-◌, ◌/◌, ◌^◌, ◌<◌, ◌≤◌, arith}
use Rattle.text.specs.Texts.{width_up_to}
use Rattle.text.proofs.Numerals.{width_one, width_more, tenth_below}
use Rattle.text.proofs.writing.width.Goals as goal

-- a number of two digits or more has a digit to spare
spare : (k x : ℕ) → 10 ≤ x → x < 10 ^ suc k → 0 < k
spare zero x h fits = absurd (omega arith)
spare (suc k) x h fits = omega arith

pub loop-rest-init : goal.loop-rest-init
loop-rest-init c = (omega arith, omega arith, omega arith)

pub loop-rest-preserved : goal.loop-rest-preserved
loop-rest-preserved c =
    again _ _ _ c.loop-rest-test.true c.loop-rest.invariant.0 c.loop-rest.invariant.1 c.loop-rest.invariant.2
  where
    again : (n rest w : ℕ) → 10 ≤ rest → n ≤ 20 → rest < 10 ^ suc (20 - n) → n + width_up_to (20 - n) rest ≡ w
        → (n + 1 ≤ 20) × (rest / 10 < 10 ^ suc (20 - (n + 1))) × (n + 1 + width_up_to (20 - (n + 1)) (rest / 10) ≡ w)
    again n rest w more few fits is =
        let one : 0 < 20 - n = spare (20 - n) rest more fits in
        let next : 20 - n ≡ suc (20 - (n + 1)) = omega arith in (
          omega arith,
          tenth_below (suc (20 - (n + 1))) rest (rw next at fits),
          omega (arith, width_more (20 - (n + 1)) rest more, rw next at is),
        )

pub returns : goal.returns
returns c = omega (arith, width_one (20 - c.loop-rest.n) c.loop-rest.rest c.loop-rest-test.false)
