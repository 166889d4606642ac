-- What is read off the bytes: the byte at a place.
-- Assumes nothing.
use mathlib.Core.Path.{◌≡◌, sym, ◌∙◌}
use mathlib.Core.List.{List}
use Prim.Native.Nat.{ℕ, ◌+◌, ◌<◌}
use native.Mathlib.Omega.{arith}
use borrow.Author.Tests.{leb-true, leb-false}
use lib.Dec.{leb}
use lib.ListN.{length, get_or, get_or-eq_default}
use Rattle.octets.specs.Places.{number_at}
use Rattle.octets.proofs.Every.{either}
use Rattle.octets.proofs.Places.{number_one, number_beyond}

-- the number of one byte, which is 0 beyond the end
pub byte_number : (s : List ℕ) (at : ℕ) → number_at 1 s at ≡ get_or s at 0
byte_number s at =
    either (leb (at + 1) (length s))
    (λ there. number_one s at (leb-true _ _ there))
    (λ beyond. let h : length s < at + 1 = leb-false _ _ beyond in
    number_beyond 1 s at h ∙ sym (get_or-eq_default s 0 (omega arith)))
