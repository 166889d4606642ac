-- Refusals in their order: what is demanded first is refused first.
use Rattle.std.specs.Prelude.{Bool, true, false}

module _ {A : Type 0} where
  -- the refusal where the test fails, and what follows where it holds
  abbrev pub demand : Bool → A → A → A
  demand true refusal next = next
  demand false refusal next = refusal
