-- A promise of equality leaves no choice. Assumes nothing.
use mathlib.Core.Path.{sym, ◌∙◌}
use mathlib.Core.List.{List}
use Prim.Native.Nat.{ℕ}
use Rattle.octets.specs.NoChoice.{NoChoiceOfOne, NoChoiceOfBoth, NoChoiceOfPart}

pub no_choice_of_one : NoChoiceOfOne
no_choice_of_one A promised a b one two = one ∙ sym two

pub no_choice_of_both : NoChoiceOfBoth
no_choice_of_both A answer a b lent out out' one two =
    (no_choice_of_one A answer a b one.0 two.0, no_choice_of_one (List ℕ) lent out out' one.1 two.1)

pub no_choice_of_part : NoChoiceOfPart
no_choice_of_part held point r r' one two =
    (no_choice_of_one (List ℕ) held r.now r'.now one.0 two.0, no_choice_of_one (ℕ × ℕ) point r.ref_ptr r'.ref_ptr one.1 two.1)
