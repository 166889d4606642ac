-- The padding of a file: what was padded has right padding, and before it stands the file.
-- Assumes nothing.
use mathlib.Core.Path.{◌≡◌, refl, ap, ◌∙◌}
use mathlib.Core.Bool.{true}
use mathlib.Core.List.{List, ◌++◌}
use Prim.Native.Nat.{ℕ, ◌+◌, ◌-◌}
use native.Mathlib.Omega.{arith}
use borrow.Author.Tests.{le-leb, eq-eqb}
use lib.Dec.{eqb}
use lib.ListN.{length, get_or, take, drop, replicate, length-append, length-replicate, get_or-replicate}
use lib.Seq.{take_at, drop_at, get_or-append-add}
use Rattle.octets.specs.Every.{all_of}
use Rattle.octets.proofs.Every.{at_all}
use Rattle.cell_file.specs.Enciphering.{added, padded_file}
use Rattle.cell_opening.specs.Opening.{padding_of, is_padded_file, unpadded_file}

module _ (s : List ℕ) where
  -- the bytes that are added
  abbrev padding : List ℕ
  padding = replicate (added s) (added s)

  with_padding : length (s ++ padding) ≡ length s + added s
  with_padding = length-append s padding ∙ ap (λ (n : ℕ). length s + n) (length-replicate (added s) (added s))

  -- the last byte is their count
  says_count : padding_of (s ++ padding) ≡ added s
  says_count =
      let last : length (s ++ padding) - 1 ≡ length s + (added s - 1) = omega (arith, with_padding) in
      ap (λ (n : ℕ). get_or (s ++ padding) n 0) last
      ∙ get_or-append-add s padding (added s - 1) 0
      ∙ get_or-replicate (added s) (added s - 1) (added s) 0 (omega arith)

  before : length (s ++ padding) - padding_of (s ++ padding) ≡ length s
  before = omega (arith, with_padding, says_count)

  pub padded_right : is_padded_file (padded_file s) ≡ true
  unfolding is_padded_file padded_file
  padded_right =
      let start : length (s ++ padding) - added s ≡ length s = omega (arith, with_padding) in
      rw (says_count, le-leb 1 (added s) (omega arith), le-leb (added s) 8 (omega arith))
      (ap (all_of (λ (b : ℕ). eqb b (added s))) (ap (λ (n : ℕ). drop n (s ++ padding)) start ∙ drop_at s padding (length s) refl)
      ∙ at_all (λ (b : ℕ). eqb b (added s)) padding
      (λ i h. eq-eqb _ _ (get_or-replicate (added s) i (added s) 0 (omega (arith, length-replicate (added s) (added s))))))

  pub unpadded_again : unpadded_file (padded_file s) ≡ s
  unfolding unpadded_file padded_file
  unpadded_again = ap (λ (n : ℕ). take n (s ++ padding)) before ∙ take_at s padding (length s) refl
