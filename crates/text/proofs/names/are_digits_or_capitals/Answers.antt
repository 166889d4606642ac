-- `text::names::are_digits_or_capitals` meets its contract: where no top bit is set no sum overflows, since each byte is below 128.
-- Assumes nothing.
use Rattle.std.proofs.Common.{◌≡◌, ℕ, ◌+◌, ◌-◌, ◌≤◌, ◌∙◌, ap₂, inl, inr, arith, ne_eqb}
use lib.Bits.{bit_xor}
use Rattle.text.proofs.AtOnce.{bytes_all, tops, odd, Last, last_letter, all_set, not-all-set, none_above}
use Rattle.text.proofs.names.are_digits_or_capitals.Goals as goal
use Rattle.text.proofs.names.are_digits_or_capitals.Goals.{After-wrapping_add_u64-4}

ascii : (last : ℕ) → Last last → last ≤ 127
ascii last (inl e) = omega arith
ascii last (inr (inl e)) = omega arith
ascii last (inr (inr e)) = omega arith

pub overflow_sub-past : goal.overflow_sub-past
overflow_sub-past c = ascii c.args.last (last_letter _ c.requires)

-- the four sums, and what they are where no top bit of x is set
module _ (c : After-wrapping_add_u64-4) where
  abbrev x : ℕ
  x = c.args.x

  abbrev last : ℕ
  last = c.args.last

  abbrev y : ℕ
  y =
      bit_xor
      (bit_xor (bit_xor c.wrapping_add_u64.result c.wrapping_add_u64-2.result) c.wrapping_add_u64-3.result)
      c.wrapping_add_u64-4.result

  sums : tops 8 x ≡ 0 → y ≡ odd last 8 x
  unfolding bytes_all odd
  sums none =
      let low : x ≤ 9187201950435737471 = none_above 8 x (omega arith) none in
      let letter : last ≤ 127 = ascii last (last_letter _ c.requires) in
      let one : c.wrapping_add_u64.result ≡ x + bytes_all 80 8 = omega (arith, c.wrapping_add_u64.ensures) in
      let two : c.wrapping_add_u64-2.result ≡ x + bytes_all 70 8 = omega (arith, c.wrapping_add_u64-2.ensures) in
      let three : c.wrapping_add_u64-3.result ≡ x + bytes_all 63 8 = omega (arith, c.wrapping_add_u64-3.ensures) in
      let four : c.wrapping_add_u64-4.result ≡ x + bytes_all (127 - last) 8 = omega (arith, c.wrapping_add_u64-4.ensures) in
      ap₂ bit_xor (ap₂ bit_xor (ap₂ bit_xor one two) three) four

pub returns-then-y : goal.returns-then-y
unfolding bytes_all
returns-then-y c = let sum = (goal.at.returns-then-y c).After-wrapping_add_u64-4 in all_set (last sum) (last_letter _ c.requires) 8 (x sum) (y sum) (sums sum) c.if-y.true

pub returns-else-y : goal.returns-else-y
unfolding bytes_all
returns-else-y c =
    let sum = (goal.at.returns-else-y c).After-wrapping_add_u64-4 in
    ne_eqb (tops 8 (y sum)) (bytes_all 128 8) c.if-y.false
    ∙ not-all-set (last sum) (last_letter _ c.requires) 8 (x sum) (y sum) (sums sum) c.if-y.false
