-- The look-through line by line: its tally, and what one step puts and counts. For contracts inside the crate alone.
use Rattle.std.specs.Prelude.{Bool, cond, List, [], ◌++◌, ℕ, ◌+◌, ◌<◌, length, Err, Ok, Result}
use Rattle.octets.specs.Every.{count_of}
use Rattle.text.specs.Ascii.{ascii}
use Rattle.text.specs.Texts.{numeral}
use Rattle.forms.specs.declared.refusals.Refusal.{Refusal}
use Rattle.cell_permit.specs.declared.Record.{Record}
use Rattle.cell_permit.specs.Line.{line_number}
use Rattle.permit_file.specs.declared.Step.{Step}
use Rattle.permit_file.specs.declared.Step.TheVariants as step
use Rattle.report.specs.LookThrough.{is_noticed, is_refused, name_shown, row_of, rows_from}
use Rattle.report.specs.declared.rows.Tally.{Tally}

-- the number's part of a row
abbrev pub row_number : Result Record Refusal → List ℕ
row_number a = ascii " " ++ numeral (line_number a)

-- the name's end of a row
unfoldable pub row_end : Result Record Refusal → List ℕ
row_end a = (ascii " " ++ name_shown a) ++ ascii "\n"

-- the tally at a place, where these answers stand before it
unfoldable pub tally_of : ℕ → List (Result Record Refusal) → Tally
tally_of place answers = record {
  place = place;
  written = length (rows_from 1 answers);
  count = length answers;
  current = count_of (is_noticed 0) answers;
  soon = count_of (is_noticed 20) answers;
  expired = count_of (is_noticed 15) answers;
  refused = count_of is_refused answers;
}

-- one where a test holds
abbrev pub one_if : Bool → ℕ
one_if test = cond test 1 0

-- the tally with one more answer, at the next place
unfoldable pub counted : Result Record Refusal → ℕ → Tally → Tally
counted a next t = record {
  place = next;
  written = t.written + length (row_of (t.count + 1) a);
  count = t.count + 1;
  current = t.current + one_if (is_noticed 0 a);
  soon = t.soon + one_if (is_noticed 20 a);
  expired = t.expired + one_if (is_noticed 15 a);
  refused = t.refused + one_if (is_refused a);
}

-- the tally moved to a place
unfoldable pub moved_to : ℕ → Tally → Tally
moved_to next t = record {
  place = next;
  written = t.written;
  count = t.count;
  current = t.current;
  soon = t.soon;
  expired = t.expired;
  refused = t.refused;
}

-- the tally after a step; the end goes on to the file's end
abbrev pub turned : ℕ → Step → Tally → Tally
turned end (step.Record r c) t = counted (Ok r) c.place t
turned end (step.Refused n c) t = counted (Err n) c.place t
turned end (step.End c) t = moved_to end t

-- what a step puts after what is written
abbrev pub row_put : Step → Tally → List ℕ
row_put (step.Record r c) t = row_of (t.count + 1) (Ok r)
row_put (step.Refused n c) t = row_of (t.count + 1) (Err n)
row_put (step.End c) t = []

-- a word, a number and LF
unfoldable pub last_field : List ℕ → ℕ → List ℕ
last_field word x = (word ++ numeral x) ++ ascii "\n"

-- the totals of a tally from its soon lines on
unfoldable pub totals_end : Tally → List ℕ
totals_end t =
    (ascii " soon " ++ numeral t.soon) ++ ((ascii " expired " ++ numeral t.expired) ++ last_field (ascii " refused ") t.refused)

-- all its totals
unfoldable pub totals_text : Tally → List ℕ
totals_text t = (ascii "records " ++ numeral t.count) ++ ((ascii " current " ++ numeral t.current) ++ totals_end t)

-- no count of a tally reaches a limit
pub record Few (limit : ℕ) (t : Tally) : Type 0 where
  pub count : t.count < limit
  pub current : t.current < limit
  pub soon : t.soon < limit
  pub expired : t.expired < limit
  pub refused : t.refused < limit
