-- `line_shape::is_permit` meets its contract. Each part that is wrong makes the permit wrong.
-- Assumes nothing.
use Rattle.std.proofs.Common.{◌≡◌, ℕ, ◌≤◌, true, List, length, sym, ◌∙◌, arith}
use Rattle.octets.specs.Numbers.{Below, bytes_of}
use Rattle.octets.specs.Every.{all_of}
use Rattle.text.specs.Characters.{is_digit, is_name_character}
use Rattle.line_shape.proofs.Shapes.{no_name, no_digits, no_date_lem, by-cipher}
use Rattle.line_shape.proofs.is_permit.Goals as goal
use Rattle.line_shape.proofs.is_permit.Goals.{After-are_name_characters, Else-not-are_digits, Else-not-are_name_characters}

-- the line, seen from where its name was tested
module _ (c : After-are_name_characters) where
  abbrev line : List ℕ
  line = c.args.line.now

  below : Below 256 line
  below k = omega (arith, c.type_inv.line k)

  long : 71 ≤ length line
  long = c.requires

pub returns-then-not-are_name_characters : goal.returns-then-not-are_name_characters
returns-then-not-are_name_characters c =
    let test = (goal.at.returns-then-not-are_name_characters c).After-are_name_characters in
    no_name (line test) (below test) (long test) c.number64.result c.number64.ensures
    (sym c.are_name_characters.ensures ∙ c.if-not-are_name_characters.true)

named : (c : Else-not-are_name_characters) → all_of is_name_character (bytes_of 8 c.number64.result) ≡ true
named c = sym c.are_name_characters.ensures ∙ c.if-not-are_name_characters.false

pub returns-then-not-are_digits : goal.returns-then-not-are_digits
returns-then-not-are_digits c =
    let test = (goal.at.returns-then-not-are_digits c).After-are_name_characters in
    no_digits (line test) (below test) (long test) c.number64.result c.number64.ensures (named (goal.at.returns-then-not-are_digits c).Else-not-are_name_characters)
    c.number64-expiry.result c.number64-expiry.ensures (sym c.are_digits.ensures ∙ c.if-not-are_digits.true)

digital : (c : Else-not-are_digits) → all_of is_digit (bytes_of 8 c.number64-expiry.result) ≡ true
digital c = sym c.are_digits.ensures ∙ c.if-not-are_digits.false

pub is_date_of-requires : goal.is_date_of-requires
is_date_of-requires c = digital (goal.at.is_date_of-requires c).Else-not-are_digits

pub returns-then-not-is_date_of : goal.returns-then-not-is_date_of
returns-then-not-is_date_of c =
    let test = (goal.at.returns-then-not-is_date_of c).After-are_name_characters in
    no_date_lem (line test) (below test) (long test) c.number64.result c.number64.ensures (named (goal.at.returns-then-not-is_date_of c).Else-not-are_name_characters)
    c.number64-expiry.result c.number64-expiry.ensures (digital (goal.at.returns-then-not-is_date_of c).Else-not-are_digits) _ c.is_date_of.ensures (c.if-not-is_date_of.true)

pub returns : goal.returns
returns c =
    let test = (goal.at.returns c).After-are_name_characters in
    c.is_cipher_part.ensures
    ∙ by-cipher (line test) (below test) (long test) c.number64.result c.number64.ensures (named (goal.at.returns c).Else-not-are_name_characters)
    c.number64-expiry.result c.number64-expiry.ensures (digital (goal.at.returns c).Else-not-are_digits) _ c.is_date_of.ensures (c.if-not-is_date_of.false)
