-- One ship, one user permit: of two that are made, and of two that are accepted. Assumes nothing.
use Rattle.std.specs.Prelude.{Option, Some, None, Ok}
use mathlib.Core.Path.{◌≡◌, refl, sym, ap, ap₂, ◌∙◌}
use mathlib.Core.Bool.{Bool, true, false, false≢true}
use mathlib.Core.List.{List}
use Prim.Native.Nat.{ℕ}
use native.Mathlib.Omega.{arith}
use lib.Dec.{leb}
use Rattle.octets.specs.Numbers.{Below}
use Rattle.text.specs.Characters.{raised_text}
use Rattle.forms.specs.Identifiers.{is_hw_id, raised_hw_id}
use Rattle.forms.specs.Output.{Output, text, refusal, bytes_written}
use Rattle.forms.specs.Refusals.{by}
use Rattle.forms.specs.declared.refusals.Refusal.{Refusal}
use Rattle.forms.proofs.Demands.{passed}
use Rattle.user_permit.specs.Register.{is_register, key_of}
use Rattle.user_permit.specs.UserPermit.{user_permit, made_for, made, read_permit}
use Rattle.user_permit.specs.Answers.{ship_hw_id, ship_mId}
use Rattle.user_permit.specs.OneShip.{OneShipOnePermit, OnePermitOneShip}
use Rattle.user_permit.specs.declared.Ship.{Ship}
use Rattle.user_permit.proofs.AcceptedPermits.{accepted_as_made}
use Rattle.user_permit.proofs.EitherCases.{permit_either_case, made_either_case}
use Rattle.user_permit.proofs.PermitsBack.{user_permit_reads_back}

-- the manufacturer that a user permit was made for
record Known (maker : Option ℕ) (hw m : ℕ) (s : List ℕ) : Type 0 where
  key : ℕ
  found : maker ≡ Some key
  permit : user_permit key hw m ≡ s

abbrev is_written : Output → Bool
is_written (text s) = true
is_written (refusal r) = false

module _ (s : List ℕ) where
  abbrev Made : Output → Type 0
  Made o = o ≡ text s

  not_made : (r : Refusal) → Made (refusal r) → ⊥
  not_made r e = false≢true (ap is_written e)

  known : (maker : Option ℕ) (hw m : ℕ) → Made (made_for maker hw m) → Known maker hw m s
  known (Some key) hw m is = record { key = key; found = refl; permit = ap bytes_written is }
  known None hw m is = absurd (not_made _ is)

  -- whatever the output's length, making into 28 bytes gives the same, and it reads back
  made_back : (register : List ℕ) (hw m room : ℕ) → Below 256 register → Made (made register hw m room)
      → Made (made register hw m 28) × (read_permit register s ≡ Ok (record { hw_id = raised_hw_id hw; m_id = m }))
  unfolding made
  made_back register hw m room below is =
      let one = passed Made (is_register register) (refusal (by 109)) _ (not_made _) is in
      let two = passed Made (leb 28 room) (refusal (by 108)) _ (not_made _) one.1 in
      let three = passed Made (is_hw_id hw) (refusal (by 18)) _ (not_made _) two.1 in
      let it = known (key_of register m) hw m three.1 in
      let back = user_permit_reads_back register it.key hw m 28 below one.0 three.0 it.found (omega arith) in
      (back.0 ∙ ap text it.permit, ap (read_permit register) (sym it.permit) ∙ back.1.1)

module _ (register s t : List ℕ) (hw m room hw₂ m₂ room₂ : ℕ) (below : Below 256 register) (is : Made s (made register hw m room)) (is₂ : Made t (made register hw₂ m₂ room₂)) where
  -- equal permits are read to one ship
  made_ship : s ≡ t → (m ≡ m₂) × (raised_hw_id hw ≡ raised_hw_id hw₂)
  made_ship e =
      let read = sym (made_back s register hw m room below is).1 ∙ ap (read_permit register) e ∙ (made_back t register hw₂ m₂ room₂ below is₂).1 in
      (ap ship_mId read, ap ship_hw_id read)

  -- and of one ship the same is made
  ship_made : (m ≡ m₂) × (raised_hw_id hw ≡ raised_hw_id hw₂) → s ≡ t
  ship_made same =
      ap bytes_written
      (sym (made_back s register hw m room below is).0
      ∙ made_either_case register hw hw₂ m 28 same.1
      ∙ ap (λ (k : ℕ). made register hw₂ k 28) same.0
      ∙ (made_back t register hw₂ m₂ room₂ below is₂).0)

pub one_ship_one_permit : OneShipOnePermit
one_ship_one_permit register s t hw m room hw₂ m₂ room₂ below is is₂ =
    (made_ship register s t hw m room hw₂ m₂ room₂ below is is₂, ship_made register s t hw m room hw₂ m₂ room₂ below is is₂)

module _ (register s t : List ℕ) (one two : Ship) (is : read_permit register s ≡ Ok one) (is₂ : read_permit register t ≡ Ok two) where
  read_ship : raised_text s ≡ raised_text t → (one.m_id ≡ two.m_id) × (one.hw_id ≡ two.hw_id)
  read_ship e =
      let read = sym is ∙ permit_either_case register s t e ∙ is₂ in
      (ap ship_mId read, ap ship_hw_id read)

  ship_read : (one.m_id ≡ two.m_id) × (one.hw_id ≡ two.hw_id) → raised_text s ≡ raised_text t
  ship_read same =
      ap bytes_written
      (sym (accepted_as_made register s one 28 is (omega arith))
      ∙ ap₂ (λ (h k : ℕ). made register h k 28) same.1 same.0
      ∙ accepted_as_made register t two 28 is₂ (omega arith))

pub one_permit_one_ship : OnePermitOneShip
one_permit_one_ship register s t one two is is₂ = (read_ship register s t one two is is₂, ship_read register s t one two is is₂)
