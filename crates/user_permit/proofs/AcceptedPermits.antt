-- An accepted user permit, its letters raised, is the one that making gives for what it was read to. Assumes nothing.
use Rattle.std.specs.Prelude.{Some}
use mathlib.Core.Path.{◌≡◌, sym, ap, ◌∙◌}
use mathlib.Core.List.{List, ◌++◌}
use Prim.Native.Nat.{ℕ, ◌^◌, ◌<◌}
use native.Mathlib.Omega.{arith}
use lib.ListN.{length, length-map}
use lib.Seq.{take_all}
use Rattle.octets.specs.Numbers.{Below}
use Rattle.octets.specs.Padding.{pad_of}
use Rattle.octets.proofs.Pads.{pad-unpad}
use Rattle.text.specs.Characters.{raised, raised_text, hex_text, hex_number}
use Rattle.text.specs.Texts.{part}
use Rattle.text.proofs.Inverses.{hex_text_at}
use Rattle.text.proofs.Notations.{hex}
use Rattle.text.proofs.NumbersAt.{number_bound}
use Rattle.text.proofs.Raising.{part-raised}
use Rattle.text.proofs.TextsAt.{part_join}
use Rattle.crc32.specs.Crc32.{crc32_of}
use Rattle.blowfish.specs.Cipher.{encipher_of, decipher_of}
use Rattle.blowfish.proofs.Words.{number_forth, blocks_stay_blocks}
use Rattle.forms.specs.Identifiers.{raised_hw_id}
use Rattle.forms.specs.Output.{text}
use Rattle.forms.proofs.HwIds.{upper_stays, upper_given}
use Rattle.user_permit.specs.Register.{key_of}
use Rattle.user_permit.specs.UserPermit.{maker_words, hw_id_part, crc_part, m_id_part, user_permit}
use Rattle.user_permit.specs.OneShip.{AcceptedAsMade}
use Rattle.user_permit.specs.declared.Ship.{Ship}
use Rattle.user_permit.proofs.PermitsBack.{maker_words_fit}
use Rattle.user_permit.proofs.ShipRead.{Accepted, accepted}
use Rattle.user_permit.proofs.UserPermits.{first_hex, second_hex, third_hex, made-text}

-- 28 characters are their three parts
whole : (s : List ℕ) → length s ≡ 28 → part 16 s 0 ++ (part 8 s 16 ++ part 4 s 24) ≡ s
whole s size =
    ap (λ (l : List ℕ). part 16 s 0 ++ l) (sym (part_join 8 4 s 16)) ∙ sym (part_join 16 12 s 0) ∙ take_all 28 s (omega arith)

module _ (register s : List ℕ) (ship : Ship) (a : Accepted register s ship) where
  abbrev key : ℕ
  key = a.under.key

  abbrev hw : ℕ
  hw = ship.hw_id

  abbrev m : ℕ
  m = ship.m_id

  -- what was deciphered and is padded and enciphered again is the block that stands there
  same_block : encipher_of (maker_words key) (pad_of 5 (raised_hw_id hw)) ≡ hex_number (part 16 s 0)
  same_block =
      let block = hex_number (part 16 s 0) in
      let words : Below (2 ^ 32) (maker_words key) = maker_words_fit key in
      let fits : block < 2 ^ 64 = number_bound hex 16 16 s 0 (first_hex s a.hex_text) in
      let plain : decipher_of (maker_words key) block < 2 ^ 64 = (blocks_stay_blocks (maker_words key) words block fits).1 in
      ap (λ (x : ℕ). encipher_of (maker_words key) (pad_of 5 x)) (upper_stays hw a.under.form)
      ∙ ap (encipher_of (maker_words key)) (pad-unpad 5 (omega arith) (decipher_of (maker_words key) block) hw plain a.under.block)
      ∙ number_forth (maker_words key) words block fits

  same_hw_id : hw_id_part key hw ≡ raised_text (part 16 s 0)
  unfolding hw_id_part
  same_hw_id = ap (hex_text 16) same_block ∙ hex_text_at 16 s 0 (first_hex s a.hex_text)

  same_crc : crc_part (hw_id_part key hw) ≡ raised_text (part 8 s 16)
  unfolding crc_part
  same_crc = ap (hex_text 8) (ap crc32_of same_hw_id ∙ sym a.crc) ∙ hex_text_at 8 s 16 (second_hex s a.hex_text)

  same_m_id : m_id_part m ≡ raised_text (part 4 s 24)
  unfolding m_id_part
  same_m_id = ap (hex_text 4) (sym a.under.m_id) ∙ hex_text_at 4 s 24 (third_hex s a.hex_text)

  same_permit : user_permit key hw m ≡ raised_text s
  unfolding user_permit
  same_permit =
      rw (same_crc, same_hw_id, same_m_id)
      (rw (part-raised 16 s 0, part-raised 8 s 16, part-raised 4 s 24) at (whole (raised_text s) (length-map s raised ∙ a.size)))

  known : key_of register m ≡ Some key
  known = ap (key_of register) (sym a.under.m_id) ∙ a.under.found

pub accepted_as_made : AcceptedAsMade
accepted_as_made register s ship room is long =
    let a = accepted register s ship is in
    made-text register ship.hw_id ship.m_id room a.undamaged long (upper_given ship.hw_id a.under.form) a.under.key (known register s ship a)
    ∙ ap text (same_permit register s ship a)
