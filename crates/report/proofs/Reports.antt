-- A report as a whole: what holds of an input that is not refused, and that rows and totals together are its report.
-- Assumes nothing.
use mathlib.Core.Path.{◌≡◌, sym, ap, ◌∙◌}
use mathlib.Core.Bool.{true}
use mathlib.Core.List.{List, ◌++◌}
use Prim.Native.Nat.{ℕ, ◌+◌, ◌*◌, ◌^◌, ◌≤◌, ◌<◌}
use native.Mathlib.Omega.{arith}
use borrow.Author.Tests.{leb-true, le-leb, lt-leb, eq-eqb, ne_eqb}
use lib.Dec.{leb}
use lib.ListN.{length, length-append, length-drop}
use Rattle.std.specs.Prelude.{Result, Ok, Err, ⊤}
use Rattle.octets.proofs.Every.{either}
use Rattle.text.specs.Texts.{width, placed}
use Rattle.text.proofs.Numerals.{numeral-length, width-at-most}
use Rattle.text.proofs.PlacedTexts.{placed_start}
use Rattle.forms.specs.Output.{text, refusal, written_of, lent_after}
use Rattle.forms.specs.Refusals.{by, number_of, refused, refusal_number, done_or}
use Rattle.forms.specs.declared.refusals.Refusal.{Refusal}
use Rattle.forms.proofs.Demands.{passed, unless_passed}
use Rattle.forms.proofs.Numbered.{has_number}
use Rattle.cell_permit.specs.CellPermit.{ship_words}
use Rattle.cell_permit.specs.Line.{read_with, given_answer}
use Rattle.cell_permit.proofs.LineNumbers.{two_digits}
use Rattle.permit_file.specs.declared.Cursor.{Cursor}
use Rattle.permit_file.specs.File.{is_header, open_of, first_place}
use Rattle.permit_file.proofs.Headers.{header_within}
use Rattle.permit_file.specs.Answers.{enc_answers}
use Rattle.report.specs.LookThrough.{is_first_line, hw_of, today_of, days_of, file_of, start_answer, start_number, answers_of, rows_from, totals_of, refused_text, report, line_ends_in, room_for, reported}
use Rattle.report.specs.Turns.{Few, tally_of, last_field, totals_end, totals_text}
use Rattle.report.specs.declared.rows.Tally.{Tally}
use Rattle.report.proofs.LineEnds.{fewer_after}
use Rattle.report.proofs.Room.{rows_room, all_few, few_tally}
use Rattle.report.proofs.Putting.{Put, next_fits, both-put}

-- nothing is refused
abbrev Passed : Result ⊤ Refusal → Type 0
Passed a = refusal_number a ≡ 0

module _ (input : List ℕ) (good : start_number input ≡ 0) where
  -- each test of its start was passed
  tests : (leb (length input) 65536 ≡ true) × ((is_first_line input ≡ true) × (is_header (file_of input) ≡ true))
  unfolding start_answer open_of
  tests =
      let short = passed Passed (leb (length input) 65536) (refused (by 103)) _ (has_number (by 103)) good in
      let first = passed Passed (is_first_line input) (refused (by 103)) _ (has_number (by 103)) short.1 in
      let given = unless_passed Passed (given_answer (hw_of input) (today_of input) (days_of input)) refused _ has_number first.1 in
      let header = passed (λ (c : Result Cursor Refusal). Passed (done_or c)) (is_header (file_of input)) (refused (by 12)) _ (has_number (by 12)) given.1 in
      (short.0, (first.0, header.0))

  pub size : length input ≤ 65536
  size = leb-true (length input) 65536 tests.0

  pub shape : is_first_line input ≡ true
  shape = tests.1.0

  pub file_within : first_place ≤ length (file_of input)
  file_within = header_within (file_of input) tests.1.1

-- each total has five digits at most
pub totals_short : (t : Tally) → Few 100000 t → length (totals_text t) ≤ 100
unfolding totals_text totals_end last_field
totals_short t few =
    let count : width t.count ≤ 5 = width-at-most t.count 5 few.count (omega arith) in
    let current : width t.current ≤ 5 = width-at-most t.current 5 few.current (omega arith) in
    let soon : width t.soon ≤ 5 = width-at-most t.soon 5 few.soon (omega arith) in
    let expired : width t.expired ≤ 5 = width-at-most t.expired 5 few.expired (omega arith) in
    let refused : width t.refused ≤ 5 = width-at-most t.refused 5 few.refused (omega arith) in
    simp (length-append, numeral-length) (omega arith)

pub refused_short : (number : ℕ) → number < 10 ^ 10 → length (refused_text number) ≤ 100
unfolding refused_text
refused_short number fits =
    let ten : width number ≤ 10 = width-at-most number 10 fits (omega arith) in
    simp (length-append, numeral-length) (omega arith)

module _ (input : List ℕ) (good : start_number input ≡ 0) where
  file_size : length (file_of input) ≤ 65536
  file_size = omega (arith, size input good, length-drop 19 input)

  tally_few : Few 100000 (tally_of (length (file_of input)) (answers_of input))
  unfolding answers_of
  tally_few =
      few_tally (length (file_of input)) (answers_of input)
      (omega (arith, file_size, all_few (read_with (ship_words (hw_of input)) (today_of input) (days_of input)) (file_of input)))

  rows_short : length (rows_from 1 (answers_of input)) ≤ 18 * (line_ends_in (file_of input) + 1)
  unfolding answers_of
  rows_short =
      rows_room (read_with (ship_words (hw_of input)) (today_of input) (days_of input))
      (two_digits (ship_words (hw_of input)) (today_of input) (days_of input)) (file_of input) (file_within input good) file_size

  same_room : room_for input ≡ 18 * line_ends_in input + 118
  unfolding room_for
  same_room = rw (le-leb (length input) 65536 (size input good))

  -- the room holds the rows and the totals
  pub rows_and_totals : 18 * (line_ends_in (file_of input) + 1) + 100 ≤ room_for input
  rows_and_totals = omega (arith, same_room, fewer_after 19 input)

  by_parts : report input ≡ rows_from 1 (answers_of input) ++ totals_text (tally_of (length (file_of input)) (answers_of input))
  unfolding report totals_of totals_text totals_end last_field tally_of
  by_parts = rw (eq-eqb (start_number input) 0 good)

  module _ (out : List ℕ) (room : room_for input ≤ length out) (t : Tally) (same : t ≡ tally_of (length (file_of input)) (answers_of input)) where
    same-written : t.written ≡ length (rows_from 1 (answers_of input))
    unfolding tally_of
    same-written = ap (λ (u : Tally). u.written) same

    same-totals : report input ≡ rows_from 1 (answers_of input) ++ totals_text t
    same-totals = by_parts ∙ ap (λ (u : Tally). rows_from 1 (answers_of input) ++ totals_text u) (sym same)

    totals-few : length (totals_text t) ≤ 100
    totals-few = rw same (totals_short (tally_of (length (file_of input)) (answers_of input)) tally_few)

    all-fits : 0 + length (rows_from 1 (answers_of input) ++ totals_text t) ≤ length out
    all-fits = omega (arith, rows_short, totals-few, rows_and_totals, length-append (rows_from 1 (answers_of input)) (totals_text t))

    module _ (out1 : List ℕ) (rows : out1 ≡ placed 0 (rows_from 1 (answers_of input)) out) where
      rows-put : Put 0 (rows_from 1 (answers_of input)) out t.written out1
      rows-put = (omega (arith, same-written), rows)

      pub totals-fit : t.written + length (totals_text t) ≤ length out1
      totals-fit = next_fits 0 (rows_from 1 (answers_of input)) (totals_text t) out all-fits t.written out1 rows-put

      pub report-put : (end : ℕ) (out2 : List ℕ) → Put t.written (totals_text t) out1 end out2
          → (end ≡ length (report input)) × (out2 ≡ placed 0 (report input) out)
      report-put end out2 totals =
          let both = both-put 0 (rows_from 1 (answers_of input)) (totals_text t) out all-fits t.written out1 rows-put end out2 totals in
          (omega (arith, both.0, ap length same-totals), both.1 ∙ ap (λ (l : List ℕ). placed 0 l out) (sym same-totals))

    pub report-fits : length (report input) ≤ length out
    report-fits = omega (arith, all-fits, ap length same-totals)

pub no_room : (input out : List ℕ) → length out < room_for input → reported input (length out) ≡ refusal (by 108)
unfolding reported
no_room input out h = rw (lt-leb (room_for input) (length out) h)

-- a refusal fits in every room
pub least_room : (input : List ℕ) → 118 ≤ room_for input
unfolding room_for
least_room input = either (leb (length input) 65536) (λ short. rw short (omega arith)) (λ long. rw long (omega arith))

pub why_refused : (input : List ℕ) (r : Refusal) → Err r ≡ start_answer input → report input ≡ refused_text (number_of r)
unfolding report
why_refused input r here = rw (← here, ne_eqb (number_of r) 0 (has_number r))

module _ (input out : List ℕ) (room : room_for input ≤ length out) (fits : length (report input) ≤ length out) where
  told : reported input (length out) ≡ text (report input)
  unfolding reported
  told = rw (le-leb (room_for input) (length out) room)

  -- a report that is put at the output's start is the answer
  pub answered : (end : ℕ) (after : List ℕ) → end ≡ length (report input) → after ≡ placed 0 (report input) out
      → (Ok end ≡ written_of (reported input (length out))) × (after ≡ lent_after (reported input (length out)) out)
  answered end after long put =
      let same : Ok end ≡ written_of (text (report input)) = cc in
      rw told (same, put ∙ placed_start (report input) out fits)

pub same_answers : (input words file : List ℕ) (today days : ℕ)
    → words ≡ ship_words (hw_of input) → today ≡ today_of input → days ≡ days_of input → file ≡ file_of input
    → enc_answers (read_with words today days) file ≡ answers_of input
unfolding answers_of
same_answers input words file today days w t d f = rw (w, t, d, f)
