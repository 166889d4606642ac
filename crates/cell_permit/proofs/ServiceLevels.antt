-- A record's notice is that of its own level and expiry, so only level 0 is warned; and what refuses a line of good shape stands in its permit.
-- Assumes nothing.
use Rattle.std.specs.Prelude.{Option, Some, None, Result, Ok, Err, ⊤}
use mathlib.Core.Path.{◌≡◌, refl, sym, ap, ◌∙◌}
use mathlib.Core.Bool.{Bool, true, false, false≢true}
use mathlib.Core.List.{List}
use Prim.Native.Nat.{ℕ}
use native.Mathlib.Omega.{arith}
use lib.Dec.{eqb}
use Rattle.text.specs.Characters.{raised_text}
use Rattle.text.specs.Texts.{part}
use Rattle.text.proofs.TextsAt.{same_within}
use Rattle.dates.specs.Notice.{days_left, notice_of, notice_number}
use Rattle.dates.proofs.Levels.{subscription, no_subscription, not_current}
use Rattle.forms.specs.Order.{demand}
use Rattle.forms.specs.Refusals.{by, number_of, refused, refusal_number, unless}
use Rattle.forms.specs.declared.refusals.Refusal.{Refusal}
use Rattle.forms.specs.declared.refusals.Refusal.TheVariants.{NoLine, Shape, Check, Today, FileCrc, PermitCrc, HwId, Padding, Book, Tenant, Value, NotHeld, Quota, UserPermit, MId, Room, Register, TwoRows, Branch, Expiry}
use Rattle.forms.proofs.Demands.{demanded, unless_refused}
use Rattle.cell_permit.specs.CellPermit.{ship_words, check_of}
use Rattle.cell_permit.specs.Line.{is_line, permit_parts, parts_of, record_of, key_under, checked, read_with, given_answer, read_line, line_number}
use Rattle.cell_permit.specs.ServiceLevel.{OwnNotice, is_warning, WarnsLevel0Alone, SinglesAreCurrent, SubscriptionsAsBefore, LevelsRefusedAlike}
use Rattle.cell_permit.specs.declared.Parts.{Parts}
use Rattle.cell_permit.specs.declared.Record.{Record}

-- what is known of a record that was read from a line
record ReadFrom (today days : ℕ) (s : List ℕ) (r : Record) : Type 0 where
  shape : is_line s ≡ true
  level : r.level ≡ (parts_of s).fields.level
  notice : r.notice ≡ notice_of r.level (days_left today r.expiry) days

-- what is known of any answer: no refusal is a warning
abbrev Answered : ℕ → ℕ → List ℕ → Result Record Refusal → Type 0
Answered today days s (Ok r) = ReadFrom today days s r
Answered today days s (Err r) = is_warning (number_of r) ≡ false

module _ (today days : ℕ) (s : List ℕ) where
  record_answered : is_line s ≡ true → (one two : Option ℕ) → Answered today days s (record_of today days (parts_of s) one two)
  record_answered shaped (Some one) (Some two) = record { shape = shaped; level = refl; notice = refl }
  record_answered shaped (Some one) None = refl
  record_answered shaped None two = refl

  answered_with : (words : List ℕ) → Answered today days s (read_with words today days s)
  unfolding read_with checked
  answered_with words =
      demanded (Answered today days s) (is_line s) (refused (by 12)) (checked words today days s p) refl
      (λ shaped. demanded (Answered today days s) (eqb p.permit.check (check_of words (raised_text (part 48 s 0)))) (refused (by 13)) (record_of today days p one two) refl
      (λ right. record_answered shaped one two))
    where
      p : Parts
      p = parts_of s

      one : Option ℕ
      one = key_under words p.permit.block1

      two : Option ℕ
      two = key_under words p.permit.block2

pub own_notice : OwnNotice
own_notice words today days s r here =
    let read : ReadFrom today days s r = rw here at (answered_with today days s words) in
    read.notice

refusal_no_warning : (r : Refusal) → is_warning (number_of r) ≡ false
refusal_no_warning NoLine = refl
refusal_no_warning Shape = refl
refusal_no_warning Check = refl
refusal_no_warning Today = refl
refusal_no_warning FileCrc = refl
refusal_no_warning PermitCrc = refl
refusal_no_warning HwId = refl
refusal_no_warning Padding = refl
refusal_no_warning Book = refl
refusal_no_warning Tenant = refl
refusal_no_warning Value = refl
refusal_no_warning NotHeld = refl
refusal_no_warning Quota = refl
refusal_no_warning UserPermit = refl
refusal_no_warning MId = refl
refusal_no_warning Room = refl
refusal_no_warning Register = refl
refusal_no_warning TwoRows = refl
refusal_no_warning Branch = refl
refusal_no_warning Expiry = refl

answered : (hw today days : ℕ) (s : List ℕ) → Answered today days s (read_line hw today days s)
unfolding read_line
answered hw today days s =
    unless_refused (Answered today days s) (given_answer hw today days) refused (read_with (ship_words hw) today days s)
    (λ r first. refusal_no_warning r)
    (λ good. answered_with today days s (ship_words hw))

level_0_alone : (today days : ℕ) (s : List ℕ) (a : Result Record Refusal) → Answered today days s a → is_warning (line_number a) ≡ true
    → (is_line s ≡ true) × ((parts_of s).fields.level ≡ 0)
level_0_alone today days s (Ok r) read warned = (
  read.shape,
  sym read.level
      ∙ not_current r.level (days_left today r.expiry) days
      (λ none. false≢true (sym (ap is_warning (ap notice_number read.notice ∙ none)) ∙ warned)),
)
level_0_alone today days s (Err r) none warned = absurd (false≢true (sym none ∙ warned))

pub warns_level_0_alone : WarnsLevel0Alone
warns_level_0_alone hw today days s = level_0_alone today days s (read_line hw today days s) (answered hw today days s)

module _ (hw today days : ℕ) (s : List ℕ) (r : Record) (here : read_line hw today days s ≡ Ok r) where
  read_from : ReadFrom today days s r
  read_from = rw here at (answered hw today days s)

pub singles_are_current : SinglesAreCurrent
singles_are_current hw today days s r here single =
    (read_from hw today days s r here).notice ∙ no_subscription _ _ _ (λ none. omega (arith, none, single))

pub subscriptions_as_before : SubscriptionsAsBefore
subscriptions_as_before hw today days s r here level = (read_from hw today days s r here).notice ∙ subscription _ _ _ level

-- what follows a test is refused alike where it is refused alike by itself
alike_after : (test : Bool) (r a b : Result Record Refusal) → refusal_number a ≡ refusal_number b → refusal_number (demand test r a) ≡ refusal_number (demand test r b)
alike_after true r a b same = same
alike_after false r a b same = refl

alike_unless : (first : Result ⊤ Refusal) (a b : Result Record Refusal) → refusal_number a ≡ refusal_number b
    → refusal_number (unless first refused a) ≡ refusal_number (unless first refused b)
alike_unless (Ok tt) a b same = same
alike_unless (Err r) a b same = refl

-- a check and two keys are refused alike, whatever the other parts are
module _ (today days : ℕ) (p q : Parts) where
  keys_alike : (one two : Option ℕ) → refusal_number (record_of today days p one two) ≡ refusal_number (record_of today days q one two)
  keys_alike (Some one) (Some two) = refl
  keys_alike (Some one) None = refl
  keys_alike None two = refl

  permit_alike : (test other : Bool) (one two k1 k2 : Option ℕ) → test ≡ other → one ≡ k1 → two ≡ k2
      → refusal_number (demand test (refused (by 13)) (record_of today days p one two)) ≡ refusal_number (demand other (refused (by 13)) (record_of today days q k1 k2))
  permit_alike test other one two k1 k2 same first second =
      rw (same, first, second)
      (alike_after other (refused (by 13)) (record_of today days p k1 k2) (record_of today days q k1 k2) (keys_alike k1 k2))

module _ (words : List ℕ) (today days : ℕ) (s t : List ℕ) (same : part 64 s 0 ≡ part 64 t 0) where
  check_same : eqb (parts_of s).permit.check (check_of words (raised_text (part 48 s 0))) ≡ eqb (parts_of t).permit.check (check_of words (raised_text (part 48 t 0)))
  unfolding parts_of permit_parts
  check_same = rw (same_within 64 s t same 16 48 (omega arith), same_within 64 s t same 48 0 (omega arith))

  first_same : key_under words (parts_of s).permit.block1 ≡ key_under words (parts_of t).permit.block1
  unfolding parts_of permit_parts
  first_same = rw (same_within 64 s t same 16 16 (omega arith))

  second_same : key_under words (parts_of s).permit.block2 ≡ key_under words (parts_of t).permit.block2
  unfolding parts_of permit_parts
  second_same = rw (same_within 64 s t same 16 32 (omega arith))

  checked_alike : refusal_number (checked words today days s (parts_of s)) ≡ refusal_number (checked words today days t (parts_of t))
  unfolding checked
  checked_alike = permit_alike today days (parts_of s) (parts_of t) _ _ _ _ _ _ check_same first_same second_same

pub levels_refused_alike : LevelsRefusedAlike
unfolding read_line read_with
levels_refused_alike hw today days s t s-line t-line same =
    let words = ship_words hw in
    rw (s-line, t-line)
    (alike_unless (given_answer hw today days) (checked words today days s (parts_of s)) (checked words today days t (parts_of t))
    (checked_alike words today days s t same))
