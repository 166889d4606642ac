-- `text::names::are_name_characters` meets its contract. Assumes nothing.
use Rattle.std.proofs.Common.{refl}
use Rattle.text.specs.Characters.{is_name_character}
use Rattle.text.proofs.names.are_name_characters.Goals as goal

pub are_digits_or_capitals-requires : goal.are_digits_or_capitals-requires
are_digits_or_capitals-requires c = refl

pub returns : goal.returns
unfolding is_name_character
returns c = c.are_digits_or_capitals.ensures
