-- What the look-through program prints for what it reads.
use Rattle.std.specs.Prelude.{Bool, true, false, cond, ◌&&◌, List, [], ◌∷◌, ◌++◌, ℕ, suc, ◌+◌, ◌*◌, leb, eqb, length, get_or, drop, Err, Ok, Result, ⊤}
use Rattle.octets.specs.Every.{count_of}
use Rattle.octets.specs.Numbers.{bytes_of}
use Rattle.octets.specs.Places.{number_at}
use Rattle.text.specs.Ascii.{byte, ascii}
use Rattle.text.specs.Characters.{is_digit, decimal_number}
use Rattle.text.specs.Texts.{part, all_at, stands_at, numeral}
use Rattle.forms.specs.Order.{demand}
use Rattle.forms.specs.Output.{Output, text, refusal}
use Rattle.forms.specs.declared.refusals.Refusal.{Refusal}
use Rattle.forms.specs.Refusals.{by, done_or, refused, refusal_number, unless}
use Rattle.cell_permit.specs.declared.Record.{Record}
use Rattle.cell_permit.specs.CellPermit.{ship_words, line_end}
use Rattle.cell_permit.specs.Line.{read_with, given_answer, line_number}
use Rattle.file_lines.specs.Lines.{is_line_end}
use Rattle.permit_file.specs.File.{open_of}
use Rattle.permit_file.specs.Answers.{enc_answers}

-- the first line, read by position: five bytes, a blank, eight bytes, a blank, two digits, CR LF
unfoldable pub is_first_line : List ℕ → Bool
is_first_line input =
    eqb (get_or input 5 0) (byte " ") && eqb (get_or input 14 0) (byte " ") && all_at is_digit 2 input 15 && stands_at line_end input 17

-- its HW_ID
abbrev pub hw_of : List ℕ → ℕ
hw_of input = number_at 5 input 0

-- its today; 0, which is no date, where the eight bytes are not all digits
unfoldable pub today_of : List ℕ → ℕ
today_of input = cond (all_at is_digit 8 input 6) (decimal_number (part 8 input 6)) 0

-- its warning days
abbrev pub days_of : List ℕ → ℕ
days_of input = decimal_number (part 2 input 15)

-- the file after it
abbrev pub file_of : List ℕ → List ℕ
file_of input = drop 19 input

-- whether the lines are listed: 103 for too many bytes or the first line's shape, then 18, 14, 103, then 12 for the header and 11
unfoldable pub start_answer : List ℕ → Result ⊤ Refusal
start_answer input =
    demand (leb (length input) 65536) (refused (by 103))
    (demand (is_first_line input) (refused (by 103))
    (unless (given_answer (hw_of input) (today_of input) (days_of input)) refused
    (done_or (open_of (file_of input)))))

-- the number of that; 0 where they are
abbrev pub start_number : List ℕ → ℕ
start_number input = refusal_number (start_answer input)

-- the answers for an input
unfoldable pub answers_of : List ℕ → List (Result Record Refusal)
answers_of input = enc_answers (read_with (ship_words (hw_of input)) (today_of input) (days_of input)) (file_of input)

-- the cell name; eight hyphens when refused
abbrev pub name_shown : Result Record Refusal → List ℕ
name_shown (Ok r) = bytes_of 8 r.name
name_shown (Err n) = ascii "--------"

-- a line's row: its count, its number, the cell name, LF
unfoldable pub row_of : ℕ → Result Record Refusal → List ℕ
row_of count a = numeral count ++ ((ascii " " ++ numeral (line_number a)) ++ ((ascii " " ++ name_shown a) ++ ascii "\n"))

-- the rows of the answers, counted on from a number
unfoldable pub rows_from : ℕ → List (Result Record Refusal) → List ℕ
rows_from count [] = []
rows_from count (a ∷ answers) = row_of count a ++ rows_from (suc count) answers

-- a record with a notice of this number: current 0, soon 20, expired 15
abbrev pub is_noticed : ℕ → Result Record Refusal → Bool
is_noticed number (Ok r) = eqb (line_number (Ok r)) number
is_noticed number (Err n) = false

-- a refused line
abbrev pub is_refused : Result Record Refusal → Bool
is_refused (Ok r) = false
is_refused (Err n) = true

-- the totals by kind: each is the number of ENC lines of that kind
unfoldable pub totals_of : List (Result Record Refusal) → List ℕ
totals_of answers =
    (ascii "records " ++ numeral (length answers))
    ++ ((ascii " current " ++ numeral (count_of (is_noticed 0) answers))
    ++ ((ascii " soon " ++ numeral (count_of (is_noticed 20) answers))
    ++ ((ascii " expired " ++ numeral (count_of (is_noticed 15) answers))
    ++ ((ascii " refused " ++ numeral (count_of is_refused answers)) ++ ascii "\n"))))

-- what is printed where nothing is listed
unfoldable pub refused_text : ℕ → List ℕ
refused_text number = ascii "refused " ++ (numeral number ++ ascii "\n")

-- all that is printed
unfoldable pub report : List ℕ → List ℕ
report input =
    demand (eqb (start_number input) 0) (refused_text (start_number input))
    (rows_from 1 (answers_of input) ++ totals_of (answers_of input))

-- how many CR LFs a list has
unfoldable pub line_ends_in : List ℕ → ℕ
line_ends_in [] = 0
line_ends_in (c ∷ s) = cond (is_line_end c (get_or s 0 0)) (suc (line_ends_in s)) (line_ends_in s)

-- room that is enough for the report of an input: 18 bytes for each CR LF and for a line that none ends, and 100; one that is too long is only refused
unfoldable pub room_for : List ℕ → ℕ
room_for input = cond (leb (length input) 65536) (18 * line_ends_in input + 118) 118

-- the report into an output of so many bytes: 108 where it has not that room
unfoldable pub reported : List ℕ → ℕ → Output
reported input room = demand (leb (room_for input) room) (refusal (by 108)) (text (report input))
