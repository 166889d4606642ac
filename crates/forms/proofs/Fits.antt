-- What the form of an identifier says of its number.
-- Assumes nothing.
use mathlib.Core.Path.{◌≡◌}
use mathlib.Core.Bool.{Bool, true}
use Prim.Native.Nat.{ℕ, ◌^◌}
use borrow.Author.Tests.{ltb-true}
use lib.Dec.{ltb}
use Rattle.octets.specs.Numbers.{bytes_of}
use Rattle.octets.specs.Every.{all_of}
use Rattle.octets.proofs.Every.{and_first, and_second}
use Rattle.forms.specs.Identifiers.{is_text}
use Rattle.forms.specs.Laws.{TextFits}

pub text_fits : TextFits
unfolding is_text
text_fits test n x text = ltb-true x (256 ^ n) (and_first (ltb x (256 ^ n)) (all_of test (bytes_of n x)) text)

pub text_all : (test : ℕ → Bool) (n x : ℕ) → is_text test n x ≡ true → all_of test (bytes_of n x) ≡ true
unfolding is_text
text_all test n x text = and_second (ltb x (256 ^ n)) (all_of test (bytes_of n x)) text
