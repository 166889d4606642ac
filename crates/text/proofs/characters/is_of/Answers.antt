-- `text::characters::is_of` meets its contract. Assumes nothing.
use Rattle.std.proofs.Common.{sym, ap, ◌∙◌}
use Rattle.text.specs.Characters.{test_of}
use Rattle.text.specs.declared.characters.Alphabet.{Alphabet}
use Rattle.text.proofs.characters.is_of.Goals as goal

pub returns-in-Digit : goal.returns-in-Digit
returns-in-Digit c = c.is_digit.ensures ∙ sym (ap (λ (a : Alphabet). test_of a c.args.c) c.in-Digit.is)

pub returns-in-UpperHex : goal.returns-in-UpperHex
returns-in-UpperHex c = c.is_upper_hex.ensures ∙ sym (ap (λ (a : Alphabet). test_of a c.args.c) c.in-UpperHex.is)

pub returns-in-Name : goal.returns-in-Name
returns-in-Name c = c.is_name_character.ensures ∙ sym (ap (λ (a : Alphabet). test_of a c.args.c) c.in-Name.is)

pub returns-in-Printable : goal.returns-in-Printable
returns-in-Printable c = c.is_printable.ensures ∙ sym (ap (λ (a : Alphabet). test_of a c.args.c) c.in-Printable.is)
