-- `forms::identifiers::is_name_2` meets its contract. Assumes nothing.
use mathlib.Core.Path.{refl, ◌∙◌}
use Rattle.octets.specs.Numbers.{digits}
use Rattle.octets.specs.Every.{all_of}
use Rattle.text.specs.Characters.{is_digit, is_name_character}
use Rattle.forms.proofs.Filled.{filled, too_large}
use Rattle.forms.proofs.identifiers.is_name_2.Goals as goal

pub returns-then-x-lt65536 : goal.returns-then-x-lt65536
unfolding digits all_of is_name_character is_digit
returns-then-x-lt65536 c = c.are_name_characters.ensures ∙ filled is_name_character 2 c.args.x c.if-x-lt65536.true 6 0x3030_3030_3030 refl

pub returns-else-x-lt65536 : goal.returns-else-x-lt65536
returns-else-x-lt65536 c = too_large is_name_character 2 c.args.x c.if-x-lt65536.false
