-- The list's lines as they are put: the count and what follows it, where there is a fault, fault by fault, and a line left out in three parts.
-- Assumes nothing.
use mathlib.Core.Path.{◌≡◌, refl, sym, ap, ◌∙◌}
use mathlib.Core.Bool.{Bool, true, false, cond}
use mathlib.Core.List.{List, ◌++◌, append_assoc}
use Prim.Native.Nat.{ℕ, ◌+◌, ◌^◌, ◌≤◌, ◌<◌}
use native.Mathlib.Omega.{arith}
use borrow.Author.Tests.{leb-true, leb-false}
use lib.Dec.{leb}
use lib.ListN.{length, length-append}
use Rattle.text.specs.Ascii.{ascii}
use Rattle.text.specs.Characters.{decimal_text}
use Rattle.text.specs.Texts.{width, numeral, placed}
use Rattle.text.proofs.Numerals.{width-at-most, numeral-length}
use Rattle.text.proofs.PlacedTexts.{placed_none, placed-next, placed_beyond}
use Rattle.mailed_lines.specs.Saying.{said, said_if, faults_said, out_said}
use Rattle.mailed_lines.specs.Putting.{counted_if}
use Rattle.mailed_lines.proofs.SaidTexts.{out_length}

-- a number of 64 bits has 20 digits at most
pub width_short : (x : ℕ) → x < 2 ^ 64 → width x ≤ 20
width_short x small = width-at-most x 20 (omega arith) (omega arith)

-- a text that does not lie within an output is not put
pub not-put : (at size : ℕ) (t out : List ℕ) → size ≡ length t → leb (at + size) (length out) ≡ false → out ≡ placed at t out
not-put at size t out is beyond = sym (placed_beyond at t out (omega (arith, leb-false (at + size) (length out) beyond)))

-- a count and what follows it
module _ (at n x : ℕ) (rest out : List ℕ) (digits : n ≡ width x) where
  pub counted_size : n + length rest ≡ length (numeral x ++ rest)
  counted_size = omega (arith, digits, numeral-length x, length-append (numeral x) rest)

  pub counted-put : leb (at + (n + length rest)) (length out) ≡ true → (out1 out2 : List ℕ) → out1 ≡ placed at (decimal_text n x) out → out2 ≡ placed (at + n) rest out1
      → out2 ≡ placed at (numeral x ++ rest) out
  unfolding numeral
  counted-put within out1 out2 first second =
      second
      ∙ ap (placed (at + n) rest) (first ∙ ap (λ (k : ℕ). placed at (decimal_text k x) out) digits)
      ∙ placed-next at (at + n) (numeral x) rest out (omega (arith, digits, numeral-length x))
      (omega (arith, leb-true (at + (n + length rest)) (length out) within, digits, numeral-length x))

-- where there is a fault, and where there is none
pub fault_put : (at : ℕ) (fault : Bool) (n : ℕ) (rest out : List ℕ) → fault ≡ true → (m : ℕ) (after : List ℕ)
    → (m ≡ length (numeral n ++ rest)) × (after ≡ placed at (numeral n ++ rest) out)
    → (m ≡ length (counted_if fault n rest)) × (after ≡ placed at (counted_if fault n rest) out)
unfolding counted_if
fault_put at fault n rest out is m after put = rw is put

pub no_fault_put : (at : ℕ) (fault : Bool) (n : ℕ) (rest out : List ℕ) → fault ≡ false
    → (0 ≡ length (counted_if fault n rest)) × (out ≡ placed at (counted_if fault n rest) out)
unfolding counted_if
no_fault_put at fault n rest out none = rw none (refl, sym (placed_none at out))

-- what is put for each fault
abbrev pub eol_put : Bool → ℕ → List ℕ
eol_put eol n = counted_if eol n (ascii " EOL\n")

abbrev pub blank_put : Bool → ℕ → List ℕ
blank_put blank n = counted_if blank n (ascii " BLANK\n")

abbrev pub case_put : Bool → ℕ → List ℕ
case_put case n = counted_if case n (ascii " CASE\n")

-- how long each is
length_if : (fault : Bool) (n letters : ℕ) (rest : List ℕ) → length rest ≡ letters → cond fault (width n + letters) 0 ≡ length (counted_if fault n rest)
unfolding counted_if
length_if true n letters rest size = omega (arith, size, numeral-length n, length-append (numeral n) rest)
length_if false n letters rest size = refl

pub if_small : (fault : Bool) (n letters x : ℕ) → x ≡ cond fault (n + letters) 0 → x ≤ n + letters
if_small true n letters x is = omega arith
if_small false n letters x is = omega arith

module _ (eol blank case : Bool) (n : ℕ) where
  -- is what is said of them, in their order
  faults_said_lem : faults_said eol blank case n ≡ eol_put eol n ++ (blank_put blank n ++ case_put case n)
  unfolding faults_said said_if said counted_if
  faults_said_lem = refl

  said_sizes : length (faults_said eol blank case n) ≡ length (eol_put eol n) + (length (blank_put blank n) + length (case_put case n))
  said_sizes =
      ap length faults_said_lem
      ∙ length-append (eol_put eol n) (blank_put blank n ++ case_put case n)
      ∙ ap (λ (k : ℕ). length (eol_put eol n) + k) (length-append (blank_put blank n) (case_put case n))

  -- how long all are
  pub faults_size : (a b c : ℕ) → a ≡ cond eol (width n + 5) 0 → b ≡ cond blank (width n + 7) 0 → c ≡ cond case (width n + 6) 0
      → a + b + c ≡ length (faults_said eol blank case n)
  faults_size a b c first second third =
      omega (
        arith,
        said_sizes,
        first ∙ length_if eol n 5 (ascii " EOL\n") refl,
        second ∙ length_if blank n 7 (ascii " BLANK\n") refl,
        third ∙ length_if case n 6 (ascii " CASE\n") refl,
      )

  -- one after the other they are put as one text
  module _ (at : ℕ) (out : List ℕ) (within : at + length (faults_said eol blank case n) ≤ length out) where
    pub second_fits : (a : ℕ) → a ≡ length (eol_put eol n) → at + a ≤ length out
    second_fits a size = omega (arith, within, said_sizes)

    pub third-fits : (a b : ℕ) → a ≡ length (eol_put eol n) → b ≡ length (blank_put blank n) → at + a + b ≤ length out
    third-fits a b first second = omega (arith, within, said_sizes)

    pub each-put : (a b : ℕ) (out1 out2 out3 : List ℕ) → a ≡ length (eol_put eol n) → b ≡ length (blank_put blank n)
        → out1 ≡ placed at (eol_put eol n) out → out2 ≡ placed (at + a) (blank_put blank n) out1 → out3 ≡ placed (at + a + b) (case_put case n) out2
        → out3 ≡ placed at (faults_said eol blank case n) out
    each-put a b out1 out2 out3 size-a size-b first second third =
        let joined : out2 ≡ placed at (eol_put eol n ++ blank_put blank n) out =
        second
        ∙ ap (placed (at + a) (blank_put blank n)) first
        ∙ placed-next at (at + a) (eol_put eol n) (blank_put blank n) out (omega arith) (omega (arith, within, said_sizes)) in
        third
        ∙ ap (placed (at + a + b) (case_put case n)) joined
        ∙ placed-next at (at + a + b) (eol_put eol n ++ blank_put blank n) (case_put case n) out
        (omega (arith, length-append (eol_put eol n) (blank_put blank n)))
        (omega (arith, within, said_sizes, length-append (eol_put eol n) (blank_put blank n)))
        ∙ ap (λ (l : List ℕ). placed at l out) (append_assoc (eol_put eol n) (blank_put blank n) (case_put case n) ∙ sym faults_said_lem)

-- a line left out: its count and OUT, its bytes, LF
module _ (at n w : ℕ) (line out : List ℕ) (digits : w ≡ width n) where
  abbrev start : List ℕ
  start = numeral n ++ ascii " OUT "

  out_said_lem : out_said n line ≡ (start ++ line) ++ ascii "\n"
  unfolding out_said said
  out_said_lem =
      sym (append_assoc (numeral n) (ascii " OUT ") (line ++ ascii "\n")) ∙ sym (append_assoc start line (ascii "\n"))

  start_size : length start ≡ w + 5
  start_size = omega (arith, digits, numeral-length n, length-append (numeral n) (ascii " OUT "))

  pub out_size : w + 5 + length line + 1 ≡ length (out_said n line)
  out_size = omega (arith, digits, out_length n line)

  pub out_put : leb (at + (w + 5 + length line + 1)) (length out) ≡ true → (out1 out2 out3 : List ℕ)
      → out1 ≡ placed at start out → out2 ≡ placed (at + (w + 5)) line out1 → out3 ≡ placed (at + (w + 5) + length line) (ascii "\n") out2
      → out3 ≡ placed at (out_said n line) out
  out_put within out1 out2 out3 first second third =
      let fits = leb-true (at + (w + 5 + length line + 1)) (length out) within in
      let joined : out2 ≡ placed at (start ++ line) out =
      second
      ∙ ap (placed (at + (w + 5)) line) first
      ∙ placed-next at (at + (w + 5)) start line out (omega (arith, start_size)) (omega (arith, start_size, fits)) in
      third
      ∙ ap (placed (at + (w + 5) + length line) (ascii "\n")) joined
      ∙ placed-next at (at + (w + 5) + length line) (start ++ line) (ascii "\n") out
      (omega (arith, start_size, length-append start line))
      (omega (arith, start_size, length-append start line, fits))
      ∙ ap (λ (l : List ℕ). placed at l out) (sym out_said_lem)
