-- `text::names::are_hex_characters` meets its contract. Assumes nothing.
use Rattle.std.proofs.Common.{refl}
use Rattle.text.specs.Characters.{is_upper_hex}
use Rattle.text.proofs.names.are_hex_characters.Goals as goal

pub are_digits_or_capitals-requires : goal.are_digits_or_capitals-requires
are_digits_or_capitals-requires c = refl

pub returns : goal.returns
unfolding is_upper_hex
returns c = c.are_digits_or_capitals.ensures
