-- What a user permit that is read as a ship has passed: every test, in their order. Assumes nothing.
use Rattle.std.specs.Prelude.{Option, Some, None, Result, Ok}
use mathlib.Core.Path.{◌≡◌, refl, sym, ap, ◌∙◌}
use mathlib.Core.Bool.{true}
use mathlib.Core.List.{List}
use Prim.Native.Nat.{ℕ}
use borrow.Author.Tests.{eqb-true}
use lib.ListN.{length}
use Rattle.octets.specs.Padding.{unpad_of}
use Rattle.text.specs.Characters.{raised_text, is_hex, hex_number}
use Rattle.text.specs.Texts.{part, all_at}
use Rattle.crc32.specs.Crc32.{crc32_of}
use Rattle.blowfish.specs.Cipher.{decipher_of}
use Rattle.forms.specs.Identifiers.{is_upper_hw_id}
use Rattle.forms.specs.Refusals.{by, refused}
use Rattle.forms.specs.declared.refusals.Refusal.{Refusal}
use Rattle.forms.proofs.Demands.{passed}
use Rattle.forms.proofs.HwIds.{upper_given}
use Rattle.user_permit.specs.Register.{is_register, key_of}
use Rattle.user_permit.specs.UserPermit.{maker_words, is_permit_text, is_crc_right, permit_mId, ship_of, read_under, permit_says, read_permit}
use Rattle.user_permit.specs.Answers.{ship_hw_id, ship_mId}
use Rattle.user_permit.specs.Laws.{ShipForm}
use Rattle.user_permit.specs.declared.Ship.{Ship}
use Rattle.user_permit.proofs.UserPermits.{text_size, text_hex}

-- what was deciphered under a manufacturer's key
pub record Deciphered (maker : Option ℕ) (s : List ℕ) (ship : Ship) : Type 0 where
  pub key : ℕ
  pub found : maker ≡ Some key
  pub block : unpad_of 5 (decipher_of (maker_words key) (hex_number (part 16 s 0))) ≡ Some ship.hw_id
  pub form : is_upper_hw_id ship.hw_id ≡ true
  pub m_id : permit_mId s ≡ ship.m_id

-- what is known of a user permit that was accepted
pub record Accepted (register s : List ℕ) (ship : Ship) : Type 0 where
  pub undamaged : is_register register ≡ true
  pub size : length s ≡ 28
  pub hex_text : all_at is_hex 28 s 0 ≡ true
  pub crc : hex_number (part 8 s 16) ≡ crc32_of (raised_text (part 16 s 0))
  pub under : Deciphered (key_of register (permit_mId s)) s ship

module _ (ship : Ship) where
  abbrev IsShip : Result Ship Refusal → Type 0
  IsShip answer = answer ≡ Ok ship

  no_ship : (r : Refusal) → IsShip (refused r) → ⊥
  no_ship r is = cc

  ship_number : (x : Option ℕ) (m : ℕ) → ship_of x m ≡ Ok ship → (x ≡ Some ship.hw_id) × (is_upper_hw_id ship.hw_id ≡ true) × (m ≡ ship.m_id)
  ship_number (Some hw) m is =
      let it = passed IsShip (is_upper_hw_id hw) (refused (by 18)) (Ok (record { hw_id = hw; m_id = m })) (no_ship _) is in
      let same : hw ≡ ship.hw_id = ap ship_hw_id it.1 in
      (ap Some same, ap is_upper_hw_id (sym same) ∙ it.0, ap ship_mId it.1)
  ship_number None m is = (cc, cc, cc)

  deciphered : (maker : Option ℕ) (s : List ℕ) → read_under maker s ≡ Ok ship → Deciphered maker s ship
  deciphered (Some key) s is =
      let it = ship_number (unpad_of 5 (decipher_of (maker_words key) (hex_number (part 16 s 0)))) (permit_mId s) is in
      record { key = key; found = refl; block = it.0; form = it.1; m_id = it.2 }
  deciphered None s is = absurd (no_ship _ is)

pub accepted : (register s : List ℕ) (ship : Ship) → read_permit register s ≡ Ok ship → Accepted register s ship
unfolding read_permit permit_says is_crc_right
accepted register s ship is =
    let one = passed (IsShip ship) (is_register register) (refused (by 109)) _ (no_ship ship _) is in
    let two = passed (IsShip ship) (is_permit_text s) (refused (by 106)) _ (no_ship ship _) one.1 in
    let three = passed (IsShip ship) (is_crc_right s) (refused (by 17)) _ (no_ship ship _) two.1 in
    record {
      undamaged = one.0;
      size = text_size s two.0;
      hex_text = text_hex s two.0;
      crc = eqb-true (hex_number (part 8 s 16)) (crc32_of (raised_text (part 16 s 0))) three.0;
      under = deciphered ship (key_of register (permit_mId s)) s three.1;
    }

pub ship_form : ShipForm
ship_form ship register permit is = upper_given ship.hw_id (accepted register permit ship is).under.form
