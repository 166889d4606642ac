-- The list's lines: how long they are, that none is empty, and that a line without faults gives none.
-- Assumes nothing.
use mathlib.Core.Path.{◌≡◌, refl, ap, ◌∙◌}
use mathlib.Core.Bool.{Bool, true, false}
use mathlib.Core.List.{List, [], ◌++◌}
use Prim.Native.Nat.{ℕ, ◌+◌, ◌*◌, ◌≤◌}
use native.Mathlib.Omega.{arith}
use lib.ListN.{length, length-append}
use Rattle.text.specs.Ascii.{ascii}
use Rattle.text.specs.Texts.{width}
use Rattle.text.proofs.Numerals.{numeral-length}
use Rattle.mailed_lines.specs.Saying.{said, said_if, faults_said, out_said}

-- how long a list line is
pub said-length : (n : ℕ) (what : List ℕ) → length (said n what) ≡ width n + length what + 2
unfolding said
said-length n what = simp length-append (omega (arith, numeral-length n))

-- none is empty
pub said_some : (n : ℕ) (what : List ℕ) → said n what ≡ [] → ⊥
said_some n what none = omega (arith, ap length none, said-length n what)

-- how long that of a line left out is
pub out_length : (n : ℕ) (line : List ℕ) → length (out_said n line) ≡ width n + length line + 6
unfolding out_said
out_length n line = said-length n (ascii "OUT " ++ line) ∙ (omega arith)

-- it is not empty
pub out_some : (n : ℕ) (line : List ℕ) → out_said n line ≡ [] → ⊥
unfolding out_said
out_some n line = said_some n (ascii "OUT " ++ line)

-- where there is the fault
if_length : (fault : Bool) (n : ℕ) (word : List ℕ) → length (said_if fault n word) ≤ width n + length word + 2
unfolding said_if
if_length true n word = omega (arith, said-length n word)
if_length false n word = omega arith

if_none : (fault : Bool) (n : ℕ) (word : List ℕ) → length (said_if fault n word) ≡ 0 → fault ≡ false
unfolding said_if
if_none true n word none = absurd (omega (arith, said-length n word))
if_none false n word none = refl

module _ (eol blank case : Bool) (n : ℕ) where
  sizes : length (faults_said eol blank case n) ≡ length (said_if eol n (ascii "EOL")) + (length (said_if blank n (ascii "BLANK")) + length (said_if case n (ascii "CASE")))
  unfolding faults_said
  sizes =
      length-append (said_if eol n (ascii "EOL")) (said_if blank n (ascii "BLANK") ++ said_if case n (ascii "CASE"))
      ∙ ap (λ (k : ℕ). length (said_if eol n (ascii "EOL")) + k) (length-append (said_if blank n (ascii "BLANK")) (said_if case n (ascii "CASE")))

  -- the faults' list lines are no longer than all three
  pub faults_length : length (faults_said eol blank case n) ≤ 3 * width n + 18
  faults_length =
      omega (arith, sizes, if_length eol n (ascii "EOL"), if_length blank n (ascii "BLANK"), if_length case n (ascii "CASE"))

  -- where none is said there is no fault
  pub faults_none : faults_said eol blank case n ≡ [] → (eol ≡ false) × ((blank ≡ false) × (case ≡ false))
  faults_none none =
      let all : length (faults_said eol blank case n) ≡ 0 = ap length none in (
        if_none eol n (ascii "EOL") (omega (arith, sizes)),
        (if_none blank n (ascii "BLANK") (omega (arith, sizes)), if_none case n (ascii "CASE") (omega (arith, sizes))),
      )

-- and where there is none none is said
pub none_said : (n : ℕ) → faults_said false false false n ≡ []
unfolding faults_said said_if
none_said n = refl
