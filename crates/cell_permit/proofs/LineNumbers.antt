-- Every number that reading a line gives has two digits at most, and 12 is given for the shape alone.
-- Assumes nothing.
use Rattle.std.specs.Prelude.{Option, Some, None, Result}
use mathlib.Core.Path.{◌≡◌}
use mathlib.Core.Bool.{true}
use mathlib.Core.List.{List}
use Prim.Native.Nat.{ℕ, ◌<◌}
use native.Mathlib.Omega.{arith}
use lib.Dec.{eqb}
use Rattle.text.specs.Characters.{raised_text}
use Rattle.text.specs.Texts.{part}
use Rattle.dates.specs.Notice.{notice_number}
use Rattle.dates.specs.declared.Notice.{Notice}
use Rattle.dates.specs.declared.Notice.TheVariants.{Current, Soon, Expired}
use Rattle.forms.proofs.Demands.{demanded}
use Rattle.forms.specs.Refusals.{by, refused}
use Rattle.forms.specs.declared.refusals.Refusal.{Refusal}
use Rattle.cell_permit.specs.CellPermit.{check_of}
use Rattle.cell_permit.specs.Line.{is_line, parts_of, notice_for, record_of, key_under, checked, read_with, line_number}
use Rattle.cell_permit.specs.Laws.{TwoDigits}
use Rattle.cell_permit.specs.declared.Parts.{Parts}
use Rattle.cell_permit.specs.declared.Record.{Record}

notice_short : (n : Notice) → notice_number n < 100
notice_short Current = omega arith
notice_short Soon = omega arith
notice_short Expired = omega arith

record_short : (today days : ℕ) (p : Parts) (one two : Option ℕ) → line_number (record_of today days p one two) < 100
record_short today days p (Some one) (Some two) = notice_short (notice_for today days p.fields.level p.permit.expiry)
record_short today days p (Some one) None = omega arith
record_short today days p None two = omega arith

pub two_digits : TwoDigits
unfolding read_with checked
two_digits words today days line =
    let p = parts_of line in
    let one = key_under words p.permit.block1 in
    let two = key_under words p.permit.block2 in
    demanded P (is_line line) (refused (by 12)) (checked words today days line p) (omega arith)
    (λ shaped. demanded P (eqb p.permit.check (check_of words (raised_text (part 48 line 0)))) (refused (by 13)) (record_of today days p one two) (omega arith)
    (λ right. record_short today days p one two))
  where
    P : Result Record Refusal → Type 0
    P a = line_number a < 100

notice_no_12 : (n : Notice) → notice_number n ≡ 12 → ⊥
notice_no_12 Current is = omega arith
notice_no_12 Soon is = omega arith
notice_no_12 Expired is = omega arith

record_no_12 : (today days : ℕ) (p : Parts) (one two : Option ℕ) → line_number (record_of today days p one two) ≡ 12 → ⊥
record_no_12 today days p (Some one) (Some two) is = notice_no_12 (notice_for today days p.fields.level p.permit.expiry) is
record_no_12 today days p (Some one) None is = omega arith
record_no_12 today days p None two is = omega arith

-- a line with the shape gives any number but 12
pub shape_no_12 : (words : List ℕ) (today days : ℕ) (line : List ℕ) → is_line line ≡ true → line_number (read_with words today days line) ≡ 12 → ⊥
unfolding read_with checked
shape_no_12 words today days line shaped =
    let p = parts_of line in
    let one = key_under words p.permit.block1 in
    let two = key_under words p.permit.block2 in
    rw shaped
    (demanded P (eqb p.permit.check (check_of words (raised_text (part 48 line 0)))) (refused (by 13)) (record_of today days p one two) (λ is. omega arith)
    (λ right. record_no_12 today days p one two))
  where
    P : Result Record Refusal → Type 0
    P a = line_number a ≡ 12 → ⊥
