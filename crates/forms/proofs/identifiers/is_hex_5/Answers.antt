-- `forms::identifiers::is_hex_5` meets its contract. Assumes nothing.
use mathlib.Core.Path.{refl, ◌∙◌}
use Rattle.octets.specs.Numbers.{digits}
use Rattle.octets.specs.Every.{all_of}
use Rattle.text.specs.Characters.{is_digit, is_upper_hex}
use Rattle.forms.proofs.Filled.{filled, too_large}
use Rattle.forms.proofs.identifiers.is_hex_5.Goals as goal

pub returns-then-x-lt1099511627776 : goal.returns-then-x-lt1099511627776
unfolding digits all_of is_upper_hex is_digit
returns-then-x-lt1099511627776 c = c.are_hex_characters.ensures ∙ filled is_upper_hex 5 c.args.x c.if-x-lt1099511627776.true 3 0x30_3030 refl

pub returns-else-x-lt1099511627776 : goal.returns-else-x-lt1099511627776
returns-else-x-lt1099511627776 c = too_large is_upper_hex 5 c.args.x c.if-x-lt1099511627776.false
