-- Under the words of a ship a cell key is found again, and the check tells apart the CRC-32s that it was made of.
-- Assumes nothing.
use Rattle.std.specs.Prelude.{Some}
use mathlib.Core.Path.{◌≡◌, sym, ap, ◌∙◌}
use mathlib.Core.List.{List}
use Prim.Native.Nat.{ℕ, ◌^◌, ◌≤◌, ◌<◌}
use native.Mathlib.Omega.{arith}
use lib.Dec.{lit<}
use lib.ListN.{take}
use Rattle.octets.specs.Numbers.{Below, bytes_of}
use Rattle.octets.specs.Padding.{pad_of}
use Rattle.octets.proofs.Digits.{take_below, append_below, digits_below}
use Rattle.octets.proofs.Pads.{pad-below, pad-injective, unpad-pad-fit}
use Rattle.crc32.specs.Crc32.{crc32_of}
use Rattle.blowfish.specs.Cipher.{encipher_of, decipher_of}
use Rattle.blowfish.proofs.Words.{number_back, blocks_stay_blocks, keys_have_words}
use Rattle.forms.specs.Identifiers.{raised_hw_id, hw_id6}
use Rattle.cell_permit.specs.CellPermit.{ship_words, check_of}
use Rattle.cell_permit.specs.Line.{key_under}

pub ship_words_lem : (hw : ℕ) → Below (2 ^ 32) (ship_words hw)
unfolding ship_words hw_id6
ship_words_lem hw =
    let id = raised_hw_id hw in
    let bytes = digits_below 256 5 id (lit< tt) in
    keys_have_words (hw_id6 id) (append_below (bytes_of 5 id) (take 1 (bytes_of 5 id)) bytes (take_below 1 (bytes_of 5 id) bytes))

crc_below : (s : List ℕ) → crc32_of s < 256 ^ 4
unfolding crc32_of
crc_below s = omega arith

module _ (words : List ℕ) (good : Below (2 ^ 32) words) where
  padded_back : (n x : ℕ) → n ≤ 8 → decipher_of words (encipher_of words (pad_of n x)) ≡ pad_of n x
  padded_back n x h = number_back words good (pad_of n x) (pad-below n h x)

  -- the cell key under its padding and the cipher
  pub key_back : (key : ℕ) → key < 256 ^ 5 → key_under words (encipher_of words (pad_of 5 key)) ≡ Some key
  key_back key fits =
      let small : 5 ≤ 8 = omega arith in
      rw (padded_back 5 key small) (unpad-pad-fit 5 small key fits)

  -- enciphered blocks have 16 hex characters
  pub enciphered_below : (n x : ℕ) → n ≤ 8 → encipher_of words (pad_of n x) < 16 ^ 16
  enciphered_below n x h = (blocks_stay_blocks words good (pad_of n x) (pad-below n h x)).0

  pub same_crc : (s t : List ℕ) → check_of words s ≡ check_of words t → crc32_of s ≡ crc32_of t
  unfolding check_of
  same_crc s t e =
      let small : 4 ≤ 8 = omega arith in
      pad-injective 4 small (crc32_of s) (crc32_of t) (crc_below s) (crc_below t)
      (sym (padded_back 4 (crc32_of s) small) ∙ ap (decipher_of words) e ∙ padded_back 4 (crc32_of t) small)
