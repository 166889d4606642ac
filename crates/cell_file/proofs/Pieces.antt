-- The pieces that the calls write: the whole blocks of a file, a first block with the carried bytes in it, and the last block.
-- Assumes nothing.
use mathlib.Core.Path.{◌≡◌, sym, ap, ap₂, ◌∙◌}
use mathlib.Core.List.{List, [], ◌++◌, append-nil}
use Prim.Native.Nat.{ℕ, ◌+◌, ◌-◌, ◌*◌, ◌/◌, ◌%◌, ◌^◌, ◌≤◌, ◌<◌}
use native.Mathlib.Omega.{arith}
use lib.ListN.{length, drop, replicate, length-append, length-replicate}
use lib.Seq.{drop-length}
use Rattle.octets.specs.Numbers.{Below, bytes_of, bytes_number}
use Rattle.octets.specs.Padding.{padded, pad_of}
use Rattle.octets.proofs.Digits.{append_below, digits_below, digits-length, digits_value, value-digits_fit, value_append, replicate_below}
use Rattle.octets.proofs.Pads.{pad-below}
use Rattle.blowfish.specs.Cipher.{encipher_of}
use Rattle.blocks.specs.Blocks.{each_block}
use Rattle.blocks.proofs.BackAgain.{one_block}
use Rattle.cell_file.specs.Enciphering.{cell_words, enciphered, added, padded_file, carried_on}
use Rattle.cell_file.proofs.WholeBlocks.{wholes_cut, padded_cut}

-- fewer than eight bytes with their padding are the last block
pub last_bytes : (s : List ℕ) → Below 256 s → length s < 8 → bytes_of 8 (pad_of (length s) (bytes_number s)) ≡ padded_file s
unfolding pad_of padded padded_file
last_bytes s below few =
    let short : length s ≡ length s % 8 = omega arith in
    let k = added s in
    let size : length (s ++ replicate k k) ≡ 8 = length-append s (replicate k k) ∙ ap (λ (n : ℕ). length s + n) (length-replicate k k) ∙ omega arith in
    ap (λ (l : List ℕ). bytes_of 8 (bytes_number (l ++ replicate (8 - length l) (8 - length l)))) (digits_value s below)
    ∙ ap (λ (n : ℕ). bytes_of 8 (bytes_number (s ++ replicate (8 - n) (8 - n)))) short
    ∙ rw size at (digits_value (s ++ replicate k k) (append_below s (replicate k k) below (replicate_below 256 k k (omega arith))))

-- a file is enciphered as its whole blocks, and what they leave with its padding
pub file_pieces : (key : ℕ) (file : List ℕ) → enciphered key (padded_file file) ≡ enciphered key file ++ enciphered key (padded_file (carried_on file))
file_pieces key file =
    ap (λ (l : List ℕ). enciphered key (padded_file l)) (sym (append-nil file))
    ∙ padded_cut file [] key
    ∙ ap (λ (l : List ℕ). enciphered key file ++ enciphered key (padded_file l)) (append-nil (carried_on file))

-- the bytes of x and those of s after them, eight in all
pub first_bytes : (n x : ℕ) (s : List ℕ) → x < 256 ^ n → Below 256 s → n + length s ≡ 8
    → bytes_of 8 (x * 256 ^ length s + bytes_number s) ≡ bytes_of n x ++ s
first_bytes n x s fits below all =
    let l = bytes_of n x ++ s in
    let size : length l ≡ 8 = length-append (bytes_of n x) s ∙ ap (λ (m : ℕ). m + length s) (digits-length 256 n x) ∙ all in
    let number : x * 256 ^ length s + bytes_number s ≡ bytes_number l =
    sym (value_append 256 (bytes_of n x) s ∙ ap (λ (y : ℕ). y * 256 ^ length s + bytes_number s) (value-digits_fit 256 n x (omega arith) fits)) in
    ap (bytes_of 8) number ∙ rw size at (digits_value l (append_below (bytes_of n x) s (digits_below 256 n x (omega arith)) below))

-- after eight bytes what follows is worked by itself
module _ (first rest : List ℕ) (eight : length first ≡ 8) where
  nothing_left : carried_on first ++ rest ≡ rest
  nothing_left =
      let all : 8 * (length first / 8) ≡ length first = omega arith in
      ap (λ (l : List ℕ). l ++ rest) (ap (λ (n : ℕ). drop n first) all ∙ drop-length first)

  pub part_pieces : (f : ℕ → ℕ) → each_block f (length (first ++ rest) / 8) (first ++ rest) ≡ each_block f 1 first ++ each_block f (length rest / 8) rest
  part_pieces f =
      let one : length first / 8 ≡ 1 = omega arith in
      wholes_cut first rest f ∙ ap₂ (λ (n : ℕ) (l : List ℕ). each_block f n first ++ each_block f (length l / 8) l) one nothing_left

-- a block of eight bytes is enciphered by itself
pub block_enciphered : (key y : ℕ) → y < 2 ^ 64 → enciphered key (bytes_of 8 y) ≡ bytes_of 8 (encipher_of (cell_words key) y)
unfolding enciphered
block_enciphered key y fits =
    let one : length (bytes_of 8 y) / 8 ≡ 1 = omega (arith, digits-length 256 8 y) in
    ap (λ (n : ℕ). each_block (encipher_of (cell_words key)) n (bytes_of 8 y)) one ∙ one_block (encipher_of (cell_words key)) y fits

-- fewer than eight bytes and their padding are enciphered as the last block
pub rest_enciphered : (key : ℕ) (s : List ℕ) → Below 256 s → length s < 8
    → enciphered key (padded_file s) ≡ bytes_of 8 (encipher_of (cell_words key) (pad_of (length s) (bytes_number s)))
rest_enciphered key s below few =
    ap (enciphered key) (sym (last_bytes s below few)) ∙ block_enciphered key (pad_of (length s) (bytes_number s)) (pad-below (length s) (omega arith) (bytes_number s))

-- the same of carried bytes, which are given by their number
pub last_enciphered : (key n x : ℕ) → n ≤ 7 → x < 256 ^ n → enciphered key (padded_file (bytes_of n x)) ≡ bytes_of 8 (encipher_of (cell_words key) (pad_of n x))
last_enciphered key n x few fits =
    let size = digits-length 256 n x in
    rest_enciphered key (bytes_of n x) (digits_below 256 n x (omega arith)) (omega (arith, size))
    ∙ ap₂ (λ (m y : ℕ). bytes_of 8 (encipher_of (cell_words key) (pad_of m y))) size (value-digits_fit 256 n x (omega arith) fits)
