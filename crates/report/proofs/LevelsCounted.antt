-- The totals by service level: each answer that is a warning is a subscription's, and that of each single purchase is current.
-- Assumes nothing.
use Rattle.std.specs.Prelude.{Err, Ok, Result}
use mathlib.Core.Path.{◌≡◌, refl, sym, ap, ◌∙◌}
use mathlib.Core.Bool.{Bool, true, false, ◌&&◌}
use mathlib.Core.List.{List}
use Prim.Native.Nat.{ℕ}
use native.Mathlib.Omega.{arith}
use borrow.Author.Tests.{eqb-true, eq-eqb}
use lib.Dec.{eqb}
use lib.ListN.{length}
use Rattle.dates.specs.Notice.{days_left, notice_number}
use Rattle.dates.specs.declared.Notice.{Notice}
use Rattle.dates.proofs.Levels.{no_subscription, not_current}
use Rattle.forms.specs.Refusals.{by, refused}
use Rattle.forms.specs.declared.refusals.Refusal.{Refusal}
use Rattle.cell_permit.specs.CellPermit.{ship_words}
use Rattle.cell_permit.specs.Line.{read_with}
use Rattle.cell_permit.specs.declared.Record.{Record}
use Rattle.cell_permit.proofs.ServiceLevels.{own_notice}
use Rattle.permit_file.specs.File.{first_place}
use Rattle.permit_file.specs.Answers.{enc_answers}
use Rattle.report.specs.LookThrough.{hw_of, today_of, days_of, file_of, answers_of, is_noticed}
use Rattle.report.specs.ServiceLevel.{has_level, AllAre, CountedByLevel}
use Rattle.report.proofs.EachAnswer.{of-answers, same_counts}

-- a test that another follows from is the same as both
with_what_follows : (a b : Bool) → (a ≡ true → b ≡ true) → a ≡ (a && b)
with_what_follows true b follows = sym (follows refl)
with_what_follows false b follows = refl

-- a line that is counted under a number has that number
noticed_number : (number : ℕ) (r : Record) → is_noticed number (Ok r) ≡ true → notice_number r.notice ≡ number
noticed_number number r = eqb-true (notice_number r.notice) number

module _ (words : List ℕ) (today days : ℕ) (s : List ℕ) where
  warned_subscription : (number : ℕ) → (number ≡ 0 → ⊥) → (a : Result Record Refusal) → read_with words today days s ≡ a
      → is_noticed number a ≡ (is_noticed number a && has_level 0 a)
  warned_subscription number other (Ok r) here =
      with_what_follows (is_noticed number (Ok r)) (has_level 0 (Ok r))
      (λ noticed. eq-eqb r.level 0
      (not_current r.level (days_left today r.expiry) days
      (λ none. other (sym (noticed_number number r noticed) ∙ ap notice_number (own_notice words today days s r here) ∙ none))))
  warned_subscription number other (Err n) here = refl

  single_noticed : (a : Result Record Refusal) → read_with words today days s ≡ a → has_level 1 a ≡ (has_level 1 a && is_noticed 0 a)
  single_noticed (Ok r) here =
      with_what_follows (has_level 1 (Ok r)) (is_noticed 0 (Ok r))
      (λ single.
      ap (λ (n : Notice). eqb (notice_number n) 0)
      (own_notice words today days s r here ∙ no_subscription _ _ _ (λ none. omega (arith, none, eqb-true r.level 1 single))))
  single_noticed (Err n) here = refl

pub counted_by_level : CountedByLevel
unfolding answers_of enc_answers
counted_by_level input = (
  all_are_lem (is_noticed 20) (has_level 0) (λ s. warned_subscription words today days s 20 (λ none. omega (arith, none))) refl,
  (
    all_are_lem (is_noticed 15) (has_level 0) (λ s. warned_subscription words today days s 15 (λ none. omega (arith, none))) refl,
    all_are_lem (has_level 1) (is_noticed 0) (single_noticed words today days) refl,
  ),
)
  where
    words : List ℕ
    words = ship_words (hw_of input)

    today : ℕ
    today = today_of input

    days : ℕ
    days = days_of input

    all_are_lem : (one other : Result Record Refusal → Bool) → ((s : List ℕ) (a : Result Record Refusal) → read_with words today days s ≡ a → one a ≡ (one a && other a))
        → one (refused (by 12)) ≡ (one (refused (by 12)) && other (refused (by 12))) → AllAre one other (answers_of input)
    all_are_lem one other of-read of-12 =
        same_counts one (λ (a : Result Record Refusal). one a && other a) (answers_of input)
        (of-answers (λ (a : Result Record Refusal). one a ≡ (one a && other a)) (read_with words today days)
        (λ s. of-read s (read_with words today days s) refl)
        of-12 (file_of input) (length (file_of input)) first_place)
