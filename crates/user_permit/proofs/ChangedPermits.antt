-- An accepted user permit with one of its first 24 characters changed by more than its case is refused. Assumes nothing.
use Rattle.std.specs.Prelude.{Result, Ok, Err}
use mathlib.Core.Path.{◌≡◌, refl, sym, ap, ◌∙◌}
use mathlib.Core.Bool.{true}
use mathlib.Core.List.{List}
use Prim.Native.Nat.{ℕ, ◌+◌, ◌-◌, ◌≤◌, ◌<◌}
use native.Mathlib.Omega.{arith}
use borrow.Author.Tests.{ltb-true, ltb-false}
use lib.Dec.{ltb}
use lib.ListN.{length, drop, get_or, length-map}
use Rattle.octets.specs.Numbers.{Below}
use Rattle.octets.proofs.Digits.{take_below, drop_below}
use Rattle.octets.proofs.Every.{either}
use Rattle.text.specs.Characters.{raised, raised_text, is_hex, hex_number}
use Rattle.text.specs.Texts.{part}
use Rattle.text.proofs.Raising.{part-raised, raised_below, same_letters}
use Rattle.text.proofs.TextsAt.{all_there}
use Rattle.crc32.specs.Crc32.{crc32_of}
use Rattle.crc32.specs.OneChange.{DifferAt}
use Rattle.crc32.proofs.OneChange.{one_change}
use Rattle.forms.proofs.OnePlace.{part_before, part-after, part-differs, raised_differ}
use Rattle.forms.specs.declared.refusals.Refusal.{Refusal}
use Rattle.user_permit.specs.UserPermit.{read_permit}
use Rattle.user_permit.specs.OneCharacter.{is_ship, UserPermitGuarded}
use Rattle.user_permit.specs.declared.Ship.{Ship}
use Rattle.user_permit.proofs.ShipRead.{Accepted, accepted}
use Rattle.user_permit.proofs.UserPermits.{second_hex}

-- the ship that an accepted permit is read as
abbrev ship_in : Result Ship Refusal → Ship
ship_in (Ok ship) = ship
ship_in (Err r) = record { hw_id = 0; m_id = 0 }

is_ship_lem : (answer : Result Ship Refusal) → is_ship answer ≡ true → answer ≡ Ok (ship_in answer)
is_ship_lem (Ok ship) is = refl
is_ship_lem (Err r) is = cc

of_ship : (register s : List ℕ) → is_ship (read_permit register s) ≡ true → Accepted register s (ship_in (read_permit register s))
of_ship register s is = accepted register s (ship_in (read_permit register s)) (is_ship_lem (read_permit register s) is)

part_below : (n : ℕ) (s : List ℕ) (at : ℕ) → Below 256 s → Below 256 (part n s at)
part_below n s at below = take_below n (drop at s) (drop_below at s below)

module _ {register : List ℕ} {one two : Ship} (s t : List ℕ) (i : ℕ) (change : DifferAt i s t) (more : raised (get_or s i 0) ≡ raised (get_or t i 0) → ⊥) (a : Accepted register s one) (b : Accepted register t two) where
  -- the change is still there with letters raised, in the part that it is in
  differs : (n at : ℕ) → at + n ≤ length s → at ≤ i → i < at + n → DifferAt (i - at) (raised_text (part n s at)) (raised_text (part n t at))
  differs n at within low high =
      rw (part-raised n s at, part-raised n t at)
      at (part-differs (raised_differ change more) n at (simp length-map within) low high)

  -- a change of one of the 16 characters changes their CRC-32, and not the one that is written
  changed_text : Below 256 s → Below 256 t → i < 16 → ⊥
  changed_text below-s below-t h =
      one_change (raised_text (part 16 s 0)) (raised_text (part 16 t 0)) (i - 0)
      (raised_below (part 16 s 0) (part_below 16 s 0 below-s))
      (raised_below (part 16 t 0) (part_below 16 t 0 below-t))
      (differs 16 0 (omega (arith, a.size)) (omega arith) (omega arith))
      (sym a.crc ∙ ap hex_number (part-after change 8 16 (omega (arith, a.size)) h) ∙ b.crc)

  -- a change of one of the 8 changes the CRC-32 that is written, and not the 16 characters
  changed_crc : 16 ≤ i → i < 24 → ⊥
  changed_crc from to =
      let differ = differs 8 16 (omega (arith, a.size)) from to in
      differ.there
      (ap (λ (l : List ℕ). get_or l (i - 16) 0)
      (same_letters (part 8 s 16) (part 8 t 16)
      (all_there is_hex 8 s 16 (second_hex s a.hex_text))
      (all_there is_hex 8 t 16 (second_hex t b.hex_text))
      (part-differs change 8 16 (omega (arith, a.size)) from to).one_length
      (a.crc ∙ ap (λ (l : List ℕ). crc32_of (raised_text l)) (part_before change 16 0 (omega (arith, a.size)) from) ∙ sym b.crc)))

  changed : Below 256 s → Below 256 t → i < 24 → ⊥
  changed below-s below-t early =
      either (ltb i 16)
      (λ h. changed_text below-s below-t (ltb-true i 16 h))
      (λ h. changed_crc (ltb-false i 16 h) early)

pub user_permit_guarded : UserPermitGuarded
user_permit_guarded register s t i below-s below-t early change more ship =
    either (is_ship (read_permit register t))
    (λ other. absurd (changed s t i change more (of_ship register s ship) (of_ship register t other) below-s below-t early))
    (λ refused. refused)
