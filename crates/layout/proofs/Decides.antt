-- A test that is made part by part: where a part fails the whole fails, and the last part decides.
-- Assumes nothing.
use mathlib.Core.Path.{◌≡◌, sym, ◌∙◌}
use mathlib.Core.Bool.{Bool, true, false}
use Rattle.octets.proofs.Every.{either, same_tests}

-- the whole, and the facts that it says
module _ {Facts : Type 0} (whole : Bool) (facts : whole ≡ true → Facts) (made : Facts → whole ≡ true) where
  pub part_fails : (part : Bool) → (Facts → part ≡ true) → part ≡ false → whole ≡ false
  part_fails part must fails = either whole (λ right. right ∙ sym (must (facts right)) ∙ fails) (λ wrong. wrong)

  pub fact_fails : (Facts → ⊥) → whole ≡ false
  fact_fails never = either whole (λ right. absurd (never (facts right))) (λ wrong. wrong)

  pub last_decides : (last : Bool) → (Facts → last ≡ true) → (last ≡ true → Facts) → last ≡ whole
  last_decides last must enough = same_tests last whole (λ right. made (enough right)) (λ right. must (facts right))
