-- The permit of a written line has the shape, and its parts stand at their places.
-- Assumes nothing.
use mathlib.Core.Path.{◌≡◌, ap}
use mathlib.Core.Bool.{true}
use mathlib.Core.List.{List, ◌++◌}
use Prim.Native.Nat.{ℕ}
use Rattle.octets.specs.Every.{all_of}
use Rattle.text.specs.Characters.{is_digit, is_hex, is_name_character, decimal_number}
use Rattle.text.specs.Texts.{part}
use Rattle.dates.specs.Calendar.{is_date}
use Rattle.forms.specs.DateText.{is_date_at}
use Rattle.cell_permit.specs.Line.{expiry_of, is_permit}
use Rattle.cell_permit.proofs.LineSizes.{Sizes}
use Rattle.cell_permit.proofs.Along.{From, next, part_there, all_there}

-- of which characters its parts are
pub record Written (name date one two check : List ℕ) : Type 0 where
  pub named : all_of is_name_character name ≡ true
  pub dated : all_of is_digit date ≡ true
  pub one_hex : all_of is_hex one ≡ true
  pub two_hex : all_of is_hex two ≡ true
  pub check_hex : all_of is_hex check ≡ true

module _ {s : List ℕ} (name date one two check tail : List ℕ) (from : From s 0 (name ++ (date ++ (one ++ (two ++ (check ++ tail))))))
    (sizes : Sizes name date one two check) where
  at_date : From s 8 (date ++ (one ++ (two ++ (check ++ tail))))
  at_date = next name _ from 8 sizes.name_size

  at_one : From s 16 (one ++ (two ++ (check ++ tail)))
  at_one = next date _ at_date 8 sizes.date_size

  at_two : From s 32 (two ++ (check ++ tail))
  at_two = next one _ at_one 16 sizes.one_size

  at_check : From s 48 (check ++ tail)
  at_check = next two _ at_two 16 sizes.two_size

  pub at_tail : From s 64 tail
  at_tail = next check _ at_check 16 sizes.check_size

  pub expiry_read : expiry_of s ≡ decimal_number date
  expiry_read = ap decimal_number (part_there date _ at_date 8 sizes.date_size)

  pub one_read : part 16 s 16 ≡ one
  one_read = part_there one _ at_one 16 sizes.one_size

  pub two_read : part 16 s 32 ≡ two
  two_read = part_there two _ at_two 16 sizes.two_size

  pub check_read : part 16 s 48 ≡ check
  check_read = part_there check _ at_check 16 sizes.check_size

  pub permit_right : Written name date one two check → is_date (decimal_number date) ≡ true → is_permit s ≡ true
  unfolding is_permit is_date_at
  permit_right written good =
      rw (
        all_there name _ from 8 sizes.name_size is_name_character written.named,
        all_there date _ at_date 8 sizes.date_size is_digit written.dated,
        expiry_read,
        good,
        all_there one _ at_one 16 sizes.one_size is_hex written.one_hex,
        all_there two _ at_two 16 sizes.two_size is_hex written.two_hex,
        all_there check _ at_check 16 sizes.check_size is_hex written.check_hex,
      )
