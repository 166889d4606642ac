-- A zero ends the meaning of every number, and none stands before.
-- Assumes nothing.
use mathlib.Core.Path.{◌≡◌, refl}
use mathlib.Core.Bool.{Bool, true, ◌&&◌}
use mathlib.Core.List.{List, [], ◌∷◌}
use Prim.Native.Nat.{ℕ}
use Prim.Native.String.{String}
use native.Mathlib.Omega.{arith}
use borrow.Author.Tests.{ltb-true}
use lib.Dec.{eqb, ltb}
use lib.ListN.{length}
use Rattle.octets.specs.Every.{all_of}
use Rattle.octets.proofs.Every.{either, and_first, and_second}
use Rattle.text.specs.Ascii.{ascii}
use Rattle.spelling.proofs.EndsOfTexts.{is_plain, Fine, fine_read}
use Rattle.meanings.specs.Meanings.{rows, meaning_by, meaning_of}
use Rattle.meanings.specs.Ends.{MeaningsEnd}

-- the rows' texts, all of them tested at once
unfoldable are_fine : List (ℕ × String) → Bool
are_fine [] = true
are_fine ((m, t) ∷ more) = ltb (length (ascii t)) 64 && (all_of is_plain (ascii t) && are_fine more)

meaning_fine : (more : List (ℕ × String)) (n : ℕ) → are_fine more ≡ true → Fine (meaning_by more n)
unfolding meaning_by are_fine is_plain all_of
meaning_fine [] n fine = (omega arith, refl)
meaning_fine ((m, t) ∷ more) n fine =
    let rest = and_second (ltb (length (ascii t)) 64) (all_of is_plain (ascii t) && are_fine more) fine in
    either (eqb n m)
    (λ is. rw is (ltb-true (length (ascii t)) 64 (and_first (ltb (length (ascii t)) 64) _ fine), and_first (all_of is_plain (ascii t)) (are_fine more) rest))
    (λ miss. rw miss (meaning_fine more n (and_second (all_of is_plain (ascii t)) (are_fine more) rest)))

pub meanings_end : MeaningsEnd
unfolding are_fine is_plain all_of
meanings_end n = fine_read (meaning_of n) (meaning_fine rows n refl)
