-- Quoted texts worked out in bytes: the ends of the alphabets, and a line with its CR LF.
-- Assumes nothing.
use Rattle.std.proofs.Common.{◌≡◌, [], ◌∷◌, refl}
use Rattle.text.specs.Ascii.{ascii}

pub ends_of_alphabets : ascii " 09AFZ~" ≡ 0x20 ∷ 0x30 ∷ 0x39 ∷ 0x41 ∷ 0x46 ∷ 0x5A ∷ 0x7E ∷ []
ends_of_alphabets = refl

pub line_with_its_end : ascii ":ECS\r\n" ≡ 0x3A ∷ 0x45 ∷ 0x43 ∷ 0x53 ∷ 0x0D ∷ 0x0A ∷ []
line_with_its_end = refl
