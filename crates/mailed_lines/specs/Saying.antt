-- What the list says of a line.
use Rattle.std.specs.Prelude.{Bool, cond, List, [], ◌++◌, ℕ}
use Rattle.text.specs.Ascii.{ascii}
use Rattle.text.specs.Texts.{numeral}

-- a list line: the old line's count, a blank, what is said of it, LF
unfoldable pub said : ℕ → List ℕ → List ℕ
said count what = numeral count ++ (ascii " " ++ (what ++ ascii "\n"))

-- it, where there is the fault
unfoldable pub said_if : Bool → ℕ → List ℕ → List ℕ
said_if fault count word = cond fault (said count word) []

-- one list line for each fault of a line, in their order: no CR before its LF, blanks at its end, small letters
unfoldable pub faults_said : Bool → Bool → Bool → ℕ → List ℕ
faults_said eol blank case count = said_if eol count (ascii "EOL") ++ (said_if blank count (ascii "BLANK") ++ said_if case count (ascii "CASE"))

-- a line left out, with its bytes
unfoldable pub out_said : ℕ → List ℕ → List ℕ
out_said count line = said count (ascii "OUT " ++ line)
