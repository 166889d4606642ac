-- The case of letters does not matter: every test and number of a user permit goes by the text with its letters raised. What is made is in capitals.
-- Assumes nothing.
use Rattle.std.specs.Prelude.{Option, Some, None}
use mathlib.Core.Path.{◌≡◌, refl}
use mathlib.Core.List.{List}
use Prim.Native.Nat.{ℕ}
use lib.Dec.{leb}
use Rattle.text.specs.Characters.{raised_text, hex_number}
use Rattle.text.specs.Texts.{part}
use Rattle.text.proofs.Raising.{same_hex, same_number, same_part, same_length, written_stays}
use Rattle.forms.specs.Identifiers.{is_hw_id, raised_hw_id}
use Rattle.forms.specs.Output.{InCapitals, refusal}
use Rattle.forms.specs.Refusals.{by}
use Rattle.forms.proofs.Demands.{demanded}
use Rattle.forms.proofs.HwIds.{same_form}
use Rattle.user_permit.specs.Register.{is_register, key_of}
use Rattle.user_permit.specs.UserPermit.{hw_id_part, user_permit, made_for, made, is_permit_text, is_crc_right, permit_mId, read_under, permit_says, read_permit}
use Rattle.user_permit.specs.EitherCase.{PermitEitherCase, SaysEitherCase, MadeEitherCase, MadeInCapitals}
use Rattle.user_permit.proofs.UserPermits.{permit_written}

module _ (s t : List ℕ) (same : raised_text s ≡ raised_text t) where
  part_number_lem : (n at : ℕ) → hex_number (part n s at) ≡ hex_number (part n t at)
  part_number_lem n at = same_number (part n s at) (part n t at) (same_part s t same n at)

  under_alike : (maker : Option ℕ) → read_under maker s ≡ read_under maker t
  under_alike (Some key) = rw (part_number_lem 16 0, part_number_lem 4 24)
  under_alike None = refl

pub says_either_case : SaysEitherCase
unfolding permit_says is_permit_text is_crc_right
says_either_case register s t same =
    rw (
      same_length s t same,
      same_hex s t same,
      part_number_lem s t same 8 16,
      same_part s t same 16 0,
      part_number_lem s t same 4 24,
      under_alike s t same (key_of register (permit_mId t)),
    )

pub permit_either_case : PermitEitherCase
unfolding read_permit
permit_either_case register s t same = rw (says_either_case register s t same)

module _ (hw k : ℕ) (same : raised_hw_id hw ≡ raised_hw_id k) where
  made_alike : (maker : Option ℕ) (m : ℕ) → made_for maker hw m ≡ made_for maker k m
  unfolding user_permit hw_id_part
  made_alike (Some key) m = rw same
  made_alike None m = refl

pub made_either_case : MadeEitherCase
unfolding made
made_either_case register hw k m room same = rw (same_form hw k same, made_alike hw k same (key_of register m) m)

made_for_in_capitals : (maker : Option ℕ) (hw m : ℕ) → InCapitals (made_for maker hw m)
made_for_in_capitals (Some key) hw m = written_stays (user_permit key hw m) (permit_written key hw m)
made_for_in_capitals None hw m = refl

pub made_in_capitals : MadeInCapitals
unfolding made
made_in_capitals register hw m room =
    demanded InCapitals (is_register register) (refusal (by 109)) _ refl
    (λ _. demanded InCapitals (leb 28 room) (refusal (by 108)) _ refl
    (λ _. demanded InCapitals (is_hw_id hw) (refusal (by 18)) _ refl
    (λ _. made_for_in_capitals (key_of register m) hw m)))
