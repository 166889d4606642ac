-- What is enciphered in two pieces, the second after what the first carried on, is what is enciphered at once.
-- Assumes nothing.
use mathlib.Core.Path.{◌≡◌, sym, ap, ap₂, ◌∙◌}
use mathlib.Core.List.{List, ◌++◌, append_assoc}
use Prim.Native.Nat.{ℕ, ◌+◌, ◌*◌, ◌/◌, ◌%◌}
use native.Mathlib.Omega.{arith}
use lib.ListN.{length, drop, replicate, length-append, length-drop, length-replicate}
use lib.Seq.{drop-append-le}
use Rattle.blowfish.specs.Cipher.{encipher_of}
use Rattle.blocks.specs.Blocks.{each_block}
use Rattle.blocks.proofs.EachBlocks.{each_block-length}
use Rattle.blocks.proofs.Cuts.{each_before, each_cut}
use Rattle.cell_file.specs.Enciphering.{cell_words, enciphered, added, padded_file, carried_on}

-- what is carried on is what is left of whole blocks
pub carried-length : (s : List ℕ) → length (carried_on s) ≡ length s % 8
carried-length s = length-drop (8 * (length s / 8)) s ∙ omega arith

pub enciphered-length : (key : ℕ) (s : List ℕ) → length (enciphered key s) ≡ 8 * (length s / 8)
unfolding enciphered
enciphered-length key s = each_block-length (encipher_of (cell_words key)) (length s / 8) s

pub padded-length : (s : List ℕ) → length (padded_file s) ≡ 8 * (length s / 8 + 1)
unfolding padded_file
padded-length s =
    length-append s (replicate (added s) (added s)) ∙ ap (λ (n : ℕ). length s + n) (length-replicate (added s) (added s)) ∙ omega arith

-- one block more than the file has whole ones
pub file_length : (key : ℕ) (s : List ℕ) → length (enciphered key (padded_file s)) ≡ 8 * (length s / 8 + 1)
file_length key s = enciphered-length key (padded_file s) ∙ omega (arith, padded-length s)

module _ (s t : List ℕ) where
  -- the whole blocks of both: those of s, and those of what s carries on with t
  wholes : length (s ++ t) / 8 ≡ length s / 8 + length (carried_on s ++ t) / 8
  wholes =
      let a = length-append s t in
      let b = length-append (carried_on s) t in
      omega (arith, a, b, carried-length s)

  after : drop (8 * (length s / 8)) (s ++ t) ≡ carried_on s ++ t
  after = drop-append-le (8 * (length s / 8)) s t (omega arith)

  pub wholes_cut : (f : ℕ → ℕ) → each_block f (length (s ++ t) / 8) (s ++ t) ≡ each_block f (length s / 8) s ++ each_block f (length (carried_on s ++ t) / 8) (carried_on s ++ t)
  wholes_cut f =
      let m = length s / 8 in
      let k = length (carried_on s ++ t) / 8 in
      ap (λ (n : ℕ). each_block f n (s ++ t)) wholes
      ∙ each_cut f m k (s ++ t) (omega (arith, wholes))
      ∙ ap₂ (λ (a b : List ℕ). a ++ each_block f k b) (each_before f m s t (omega arith)) after

module _ (s t : List ℕ) where
  -- the padding goes by what is left of whole blocks
  same_added : added (s ++ t) ≡ added (carried_on s ++ t)
  same_added = let a = length-append s t in let b = length-append (carried_on s) t in omega (arith, a, b, carried-length s)

  pub padded_cut : (key : ℕ) → enciphered key (padded_file (s ++ t)) ≡ enciphered key s ++ enciphered key (padded_file (carried_on s ++ t))
  unfolding enciphered padded_file
  padded_cut key =
      let padding = replicate (added (s ++ t)) (added (s ++ t)) in
      let same : carried_on s ++ (t ++ padding) ≡ (carried_on s ++ t) ++ replicate (added (carried_on s ++ t)) (added (carried_on s ++ t))
      = sym (append_assoc (carried_on s) t padding) ∙ ap (λ (n : ℕ). (carried_on s ++ t) ++ replicate n n) same_added in
      ap (enciphered key) (append_assoc s t padding)
      ∙ wholes_cut s (t ++ padding) (encipher_of (cell_words key))
      ∙ ap (λ (l : List ℕ). enciphered key s ++ enciphered key l) same
