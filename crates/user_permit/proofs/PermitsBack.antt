-- What making gives reads back. Assumes nothing.
use Rattle.std.specs.Prelude.{Some}
use mathlib.Core.Path.{◌≡◌, sym, ap, ap₂, ◌∙◌}
use mathlib.Core.Bool.{true}
use mathlib.Core.List.{List}
use Prim.Native.Nat.{ℕ, ◌^◌, ◌<◌}
use native.Mathlib.Omega.{arith}
use lib.ListN.{length}
use Rattle.octets.specs.Numbers.{Below, bytes_of}
use Rattle.octets.specs.Padding.{pad_of, unpad_of}
use Rattle.octets.proofs.Digits.{digits_below}
use Rattle.octets.proofs.Pads.{unpad-pad-fit, pad-below}
use Rattle.text.specs.Characters.{raised_text, is_upper_hex, hex_number}
use Rattle.text.specs.Texts.{part}
use Rattle.text.proofs.Alphabets.{number_of_text_fit}
use Rattle.text.proofs.Notations.{hex}
use Rattle.text.proofs.Raising.{written_stays}
use Rattle.crc32.specs.Crc32.{crc32_of}
use Rattle.blowfish.specs.Cipher.{encipher_of, decipher_of}
use Rattle.blowfish.proofs.Words.{number_back, blocks_stay_blocks, keys_have_words}
use Rattle.forms.specs.Identifiers.{is_hw_id, raised_hw_id}
use Rattle.forms.proofs.Fits.{text_fits}
use Rattle.forms.proofs.HwIds.{raised_upper}
use Rattle.user_permit.specs.Register.{key_of}
use Rattle.user_permit.specs.UserPermit.{maker_words, hw_id_part, crc_part, m_id_part, user_permit, is_crc_right, permit_mId, ship_of}
use Rattle.user_permit.specs.ReadBack.{UserPermitReadsBack}
use Rattle.user_permit.proofs.Registers.{found-id}
use Rattle.user_permit.proofs.UserPermits.{hw_id_written, permit_length, first_part, second_part, third_part, permit_hex, permit_text_lem, crc_right, made-text, says-known, read_undamaged}

crc_fits : (s : List ℕ) → crc32_of s < 16 ^ 8
unfolding crc32_of
crc_fits s = omega arith

pub maker_words_fit : (key : ℕ) → Below (2 ^ 32) (maker_words key)
maker_words_fit key = keys_have_words (bytes_of 5 key) (digits_below 256 5 key (omega arith))

module _ (key hw m : ℕ) where
  -- the permit's CRC-32 is that of its first 16 characters
  permit_crc_right : is_crc_right (user_permit key hw m) ≡ true
  unfolding crc_part
  permit_crc_right =
      crc_right (user_permit key hw m) _ (crc32_of (hw_id_part key hw))
      (ap hex_number (sym (second_part key hw m)))
      (ap crc32_of (sym (ap raised_text (first_part key hw m) ∙ written_stays (hw_id_part key hw) (hw_id_written key hw m))))
      (number_of_text_fit hex 8 (crc32_of (hw_id_part key hw)) (crc_fits (hw_id_part key hw)))

  permit_m_id : m < 256 ^ 2 → permit_mId (user_permit key hw m) ≡ m
  unfolding m_id_part
  permit_m_id fits = ap hex_number (third_part key hw m) ∙ number_of_text_fit hex 4 m (omega arith)

  permit_hw_id : is_hw_id hw ≡ true
      → unpad_of 5 (decipher_of (maker_words key) (hex_number (part 16 (user_permit key hw m) 0))) ≡ Some (raised_hw_id hw)
  unfolding hw_id_part
  permit_hw_id right =
      let id = raised_hw_id hw in
      let words : Below (2 ^ 32) (maker_words key) = maker_words_fit key in
      let padded : pad_of 5 id < 2 ^ 64 = pad-below 5 (omega arith) id in
      let block : encipher_of (maker_words key) (pad_of 5 id) < 16 ^ 16 = (blocks_stay_blocks (maker_words key) words (pad_of 5 id) padded).0 in
      ap (λ (x : ℕ). unpad_of 5 (decipher_of (maker_words key) x))
      (ap hex_number (first_part key hw m) ∙ number_of_text_fit hex 16 (encipher_of (maker_words key) (pad_of 5 id)) block)
      ∙ ap (unpad_of 5) (number_back (maker_words key) words (pad_of 5 id) padded)
      ∙ unpad-pad-fit 5 (omega arith) id (text_fits is_upper_hex 5 id (raised_upper hw right))

pub user_permit_reads_back : UserPermitReadsBack
user_permit_reads_back register key hw m room below good right found long =
    let permit = user_permit key hw m in
    let size : length permit ≡ 28 = permit_length key hw m in
    let id : permit_mId permit ≡ m = permit_m_id key hw m (found-id register m key below found) in
    let read =
    read_undamaged register permit good
    ∙ says-known register permit (permit_text_lem permit size (permit_hex key hw m)) (permit_crc_right key hw m) key
    (ap (key_of register) id ∙ found) in
    (made-text register hw m room good long right key found, (size, read ∙ ap₂ ship_of (permit_hw_id key hw m right) id ∙ (rw (raised_upper hw right))))
