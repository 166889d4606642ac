-- The bytes of a line: a text less the CR at its end, less the blanks at its end, raised.
-- Assumes nothing.
use mathlib.Core.Path.{◌≡◌, refl, sym, ap, ap₂, ◌∙◌}
use mathlib.Core.Bool.{Bool, true, false, not}
use mathlib.Core.List.{List, [], ◌∷◌, ◌++◌}
use Prim.Native.Nat.{ℕ, zero, suc, ◌+◌, ◌-◌, ◌≤◌}
use native.Mathlib.Omega.{arith}
use borrow.Author.Tests.{eqb-true, eq-eqb, lt-leb, ne_eqb}
use lib.Dec.{eqb}
use lib.ListN.{length, take, length-take, length-append}
use lib.Seq.{take-length}
use Rattle.octets.specs.Every.{all_of}
use Rattle.octets.proofs.Every.{either, same_tests, all_first, all_rest, all_more}
use Rattle.text.specs.Characters.{between, raised, raised_text}
use Rattle.text.specs.Texts.{same_text}
use Rattle.text.proofs.Notations.{between_high}
use Rattle.text.proofs.Raising.{low_raised}
use Rattle.text.proofs.SameTexts.{same_true, same_refl}
use Rattle.mailed_lines.specs.Mailed.{ends_in_cr, line_of, before_rest, unblanked}
use Rattle.mailed_lines.proofs.CutTexts.{not_lf}

-- what stands before a CR at the end is the line
pub line_before_cr : (m : List ℕ) → line_of (m ++ (13 ∷ [])) ≡ m
unfolding line_of
line_before_cr [] = refl
line_before_cr (c ∷ []) = refl
line_before_cr (c ∷ d ∷ m) = ap (λ (l : List ℕ). c ∷ l) (line_before_cr (d ∷ m))

-- which is one that CR ends
pub cr_at_end : (m : List ℕ) → ends_in_cr (m ++ (13 ∷ [])) ≡ true
unfolding ends_in_cr
cr_at_end [] = refl
cr_at_end (c ∷ []) = refl
cr_at_end (c ∷ d ∷ m) = cr_at_end (d ∷ m)

-- a text that ends in CR is its line and that CR
pub line_and_cr : (t : List ℕ) → ends_in_cr t ≡ true → t ≡ line_of t ++ (13 ∷ [])
unfolding ends_in_cr line_of
line_and_cr [] e = cc
line_and_cr (c ∷ []) e = rw e (ap (λ (n : ℕ). n ∷ []) (eqb-true c 13 e))
line_and_cr (c ∷ d ∷ s) e = ap (λ (l : List ℕ). c ∷ l) (line_and_cr (d ∷ s) e)

-- any other is its line
pub line_whole : (t : List ℕ) → ends_in_cr t ≡ false → line_of t ≡ t
unfolding ends_in_cr line_of
line_whole [] e = refl
line_whole (c ∷ []) e = rw e
line_whole (c ∷ d ∷ s) e = ap (λ (l : List ℕ). c ∷ l) (line_whole (d ∷ s) e)

-- the line is what its text begins with
pub line_start : (t : List ℕ) → take (length (line_of t)) t ≡ line_of t
unfolding line_of
line_start [] = refl
line_start (c ∷ []) = either (eqb c 13) (λ cr. rw cr) (λ other. rw other)
line_start (c ∷ d ∷ s) = ap (λ (l : List ℕ). c ∷ l) (line_start (d ∷ s))

-- a text that another begins with
module _ (t s : List ℕ) (start : take (length t) s ≡ t) where
  start_short : length t ≤ length s
  start_short = omega (arith, sym (ap length start) ∙ length-take (length t) s)

  start_same : same_text t s ≡ eqb (length t) (length s)
  start_same =
      same_tests (same_text t s) (eqb (length t) (length s))
      (λ same. eq-eqb (length t) (length s) (ap length (same_true t s same)))
      (λ size.
      let equal : t ≡ s = sym start ∙ ap (λ (n : ℕ). take n s) (eqb-true (length t) (length s) size) ∙ take-length s in
      rw equal (same_refl s))

-- so it is no longer
pub line_short : (t : List ℕ) → length (line_of t) ≤ length t
line_short t = start_short (line_of t) t (line_start t)

-- it is as long as its text where no CR ends that
pub no_cr_shown : (t : List ℕ) → not (ends_in_cr t) ≡ eqb (length (line_of t)) (length t)
no_cr_shown t =
    either (ends_in_cr t)
    (λ cr.
    rw (cr, ne_eqb (length (line_of t)) (length t) (λ e. omega (arith, ap length (line_and_cr t cr) ∙ length-append (line_of t) (13 ∷ [])))))
    (λ none. rw (none, eq-eqb (length (line_of t)) (length t) (ap length (line_whole t none))))

-- a byte before what is left
before_start : (c : ℕ) (s r : List ℕ) → take (length r) s ≡ r → take (length (before_rest c r)) (c ∷ s) ≡ before_rest c r
unfolding before_rest
before_start c s [] e = either (eqb c 32) (λ blank. rw blank) (λ other. rw other)
before_start c s (d ∷ r) e = ap (λ (l : List ℕ). c ∷ l) e

-- what is left of a line is what it begins with
pub unblanked_start : (s : List ℕ) → take (length (unblanked s)) s ≡ unblanked s
unfolding unblanked
unblanked_start [] = refl
unblanked_start (c ∷ s) = before_start c s (unblanked s) (unblanked_start s)

-- so it is no longer
pub unblanked_short : (s : List ℕ) → length (unblanked s) ≤ length s
unblanked_short s = start_short (unblanked s) s (unblanked_start s)

-- a line has no blanks at its end where it is as long without them
pub no_blank_shown : (s : List ℕ) → same_text (unblanked s) s ≡ eqb (length (unblanked s)) (length s)
no_blank_shown s = start_same (unblanked s) s (unblanked_start s)

before_stays : (c : ℕ) (r : List ℕ) → unblanked r ≡ r → unblanked (before_rest c r) ≡ before_rest c r
unfolding unblanked before_rest
before_stays c [] e = either (eqb c 32) (λ blank. rw blank) (λ other. rw (other, other))
before_stays c (d ∷ r) e = rw e

-- blanks that are gone are gone
pub unblanked_stays : (s : List ℕ) → unblanked (unblanked s) ≡ unblanked s
unfolding unblanked
unblanked_stays [] = refl
unblanked_stays (c ∷ s) = before_stays c (unblanked s) (unblanked_stays s)

raised_again : (c : ℕ) → raised (raised c) ≡ raised c
unfolding raised
raised_again c =
    either (between 97 122 c)
    (λ small. rw (small, lt-leb 97 (c - 97 + 65) (omega (arith, between_high 97 122 c small))))
    (λ other. rw (other, other))

-- raising once is enough
pub raised_twice : (s : List ℕ) → raised_text (raised_text s) ≡ raised_text s
raised_twice [] = refl
raised_twice (c ∷ s) = ap₂ (λ (d : ℕ) (l : List ℕ). d ∷ l) (raised_again c) (raised_twice s)

raised_before : (c : ℕ) (r : List ℕ) → before_rest (raised c) (raised_text r) ≡ raised_text (before_rest c r)
unfolding before_rest
raised_before c [] = either (eqb c 32) (λ blank. rw (low_raised c 32 (omega arith), blank)) (λ other. rw (low_raised c 32 (omega arith), other))
raised_before c (d ∷ r) = refl

-- a blank is no letter, so raising and taking blanks off may go in either order
pub unblanked-raised : (s : List ℕ) → unblanked (raised_text s) ≡ raised_text (unblanked s)
unfolding unblanked
unblanked-raised [] = refl
unblanked-raised (c ∷ s) = ap (before_rest (raised c)) (unblanked-raised s) ∙ raised_before c (unblanked s)

-- and a line without blanks at its end has none when it is raised
pub raised-unblanked : (s : List ℕ) → unblanked (raised_text (unblanked s)) ≡ raised_text (unblanked s)
raised-unblanked s = unblanked-raised (unblanked s) ∙ ap raised_text (unblanked_stays s)

-- a test of every byte holds of those that a text begins with
all_take : (test : ℕ → Bool) (n : ℕ) (s : List ℕ) → all_of test s ≡ true → all_of test (take n s) ≡ true
unfolding all_of
all_take test zero s all = refl
all_take test (suc n) [] all = all
all_take test (suc n) (c ∷ s) all = all_more test c (take n s) (all_first test c s all) (all_take test n s (all_rest test c s all))

-- a text without LF has a line without LF
pub line_without : (t : List ℕ) → all_of not_lf t ≡ true → all_of not_lf (line_of t) ≡ true
line_without t none = ap (all_of not_lf) (sym (line_start t)) ∙ all_take not_lf (length (line_of t)) t none

-- it stays so without its blanks
pub unblanked_without : (s : List ℕ) → all_of not_lf s ≡ true → all_of not_lf (unblanked s) ≡ true
unblanked_without s none = ap (all_of not_lf) (sym (unblanked_start s)) ∙ all_take not_lf (length (unblanked s)) s none

-- and when it is raised
pub raised_without : (s : List ℕ) → all_of not_lf s ≡ true → all_of not_lf (raised_text s) ≡ true
raised_without [] none = none
raised_without (c ∷ s) none =
    all_more not_lf (raised c) (raised_text s)
    (ap not (low_raised c 10 (omega arith)) ∙ all_first not_lf c s none) (raised_without s (all_rest not_lf c s none))
