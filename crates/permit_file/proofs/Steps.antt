-- Places rise until the end, which stays and is reached within as many steps as the file has bytes.
-- Assumes nothing.
use mathlib.Core.Path.{◌≡◌, refl, sym, ◌∙◌}
use mathlib.Core.Bool.{true, false}
use mathlib.Core.List.{List}
use Prim.Native.Nat.{ℕ, zero, suc, ◌+◌, ◌-◌, ◌≤◌, ◌<◌}
use native.Mathlib.Omega.{arith}
use borrow.Author.Tests.{le-leb, ltb-true}
use lib.Dec.{leb, ltb}
use lib.ListN.{length}
use Rattle.std.specs.Prelude.{Result, Ok, Err}
use Rattle.octets.proofs.Every.{either, never_both}
use Rattle.forms.specs.Refusals.{by}
use Rattle.forms.proofs.Numbered.{none_refused}
use Rattle.cell_permit.specs.CellPermit.{ship_words}
use Rattle.cell_permit.specs.Line.{given_answer, given_number}
use Rattle.forms.specs.declared.refusals.Refusal.{Refusal}
use Rattle.cell_permit.specs.declared.Record.{Record}
use Rattle.file_lines.specs.Lines.{line_ends, line_at, ends_at}
use Rattle.file_lines.proofs.LineEnds.{begins_first, next-within}
use Rattle.file_lines.proofs.PartEnds.{ends_with_bytes}
use Rattle.permit_file.specs.File.{cursor, onward, refused_step, step_by, step_with, step_of, is_end, next_place}
use Rattle.permit_file.specs.Steps.{place_after, PlacesRise, EndStays, FileEnds}
use Rattle.permit_file.specs.declared.Step.TheVariants.{End}

onward_place : (l : Result Record Refusal) (place : ℕ) → next_place (onward l (cursor place)) ≡ place
onward_place (Ok r) place = refl
onward_place (Err r) place = refl

onward_no_end : (l : Result Record Refusal) (place : ℕ) → is_end (onward l (cursor place)) ≡ false
onward_no_end (Ok r) place = refl
onward_no_end (Err r) place = refl

module _ (read : List ℕ → Result Record Refusal) (file : List ℕ) (place : ℕ) where
  beyond : leb place (length file) ≡ false → step_by read file place ≡ refused_step (cursor (length file)) (by 12)
  unfolding step_by
  beyond past = rw past

  at_end : leb place (length file) ≡ true → ends_at file place ≡ true → step_by read file place ≡ End (cursor place)
  unfolding step_by
  at_end within end = rw (within, end)

  unended
      : leb place (length file) ≡ true → ends_at file place ≡ false → ltb (line_ends file place) (length file) ≡ false
      → step_by read file place ≡ refused_step (cursor (length file)) (by 12)
  unfolding step_by
  unended within on runs = rw (within, on, runs)

  one_line
      : leb place (length file) ≡ true → ends_at file place ≡ false → ltb (line_ends file place) (length file) ≡ true
      → step_by read file place ≡ onward (read (line_at file place)) (cursor (line_ends file place + 2))
  unfolding step_by
  one_line within on closed = rw (within, on, closed)

  rises
      : place ≤ length file → ends_at file place ≡ false
      → (place < next_place (step_by read file place)) × (next_place (step_by read file place) ≤ length file)
  rises h on =
      let within : leb place (length file) ≡ true = le-leb place (length file) h in
      let before-end : place ≡ length file → ⊥ = λ e. never_both (ends_at file place) on (ends_with_bytes file place e) in
      either (ltb (line_ends file place) (length file))
      (λ closed.
      let first : place ≤ line_ends file place = begins_first file place in
      rw (one_line within on closed, onward_place) (omega arith, next-within file place h (ltb-true (line_ends file place) (length file) closed)))
      (λ runs. rw (unended within on runs) (omega arith, omega arith))

module _ (hw today days : ℕ) (file : List ℕ) (place n : ℕ) (given : n ≡ given_number hw today days) where
  pub given_good : n ≡ 0 → step_of hw today days file place ≡ step_with (ship_words hw) today days file place
  unfolding step_of
  given_good good = rw (none_refused (given_answer hw today days) (sym given ∙ good))

pub places_rise : PlacesRise
places_rise read file place h going =
    either (ends_at file place)
    (λ end. absurd (never_both (is_end (step_by read file place)) going (rw (at_end read file place (le-leb place (length file) h) end))))
    (λ on. rises read file place h on)

pub end_stays : EndStays
end_stays read file place ends =
    either (leb place (length file))
    (λ within.
    either (ends_at file place)
    (λ end. at_end read file place within end)
    (λ on.
    absurd
    (never_both (is_end (step_by read file place))
    (either (ltb (line_ends file place) (length file))
    (λ closed. rw (one_line read file place within on closed, onward_no_end))
    (λ runs. rw (unended read file place within on runs)))
    ends)))
    (λ past. absurd (never_both (is_end (step_by read file place)) (rw (beyond read file place past)) ends))

stays : (read : List ℕ → Result Record Refusal) (file : List ℕ) (place : ℕ) → is_end (step_by read file place) ≡ true → (n : ℕ) → place_after read file n place ≡ place
unfolding place_after
stays read file place ends zero = refl
stays read file place ends (suc n) = rw (end_stays read file place ends) (stays read file place ends n)

reached
    : (read : List ℕ → Result Record Refusal) (file : List ℕ) (n place : ℕ) → place ≤ length file → length file - place ≤ n
    → is_end (step_by read file (place_after read file n place)) ≡ true
unfolding place_after
reached read file zero place h left = rw (at_end read file place (le-leb place (length file) h) (ends_with_bytes file place (omega arith)))
reached read file (suc n) place h left =
    either (is_end (step_by read file place))
    (λ ends. rw (end_stays read file place ends, stays read file place ends n) ends)
    (λ going.
    let rise = places_rise read file place h going in
    reached read file n (next_place (step_by read file place)) rise.1 (omega arith))

pub file_ends : FileEnds
file_ends read file place h = reached read file (length file - place) place h (omega arith)
