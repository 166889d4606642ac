-- What each line gives, as the code has it: by the line and what is left of it, by what was told of its letters, and by what becomes of it.
-- Assumes nothing.
use Rattle.std.proofs.Common.{◌≡◌, ℕ, ◌+◌, ◌≤◌, Bool, true, false, not, List, [], ◌∷◌, ◌++◌, length, refl, sym, ap, ap₂, ◌∙◌, arith, eqb, ltb, eq-eqb, ne_eqb, ltb-true, ltb-false}
use lib.ListN.{length-append}
use Rattle.octets.proofs.Every.{either}
use Rattle.text.specs.Ascii.{ascii}
use Rattle.text.specs.Characters.{raised_text}
use Rattle.text.specs.Texts.{same_text, width, numeral}
use Rattle.text.proofs.SameTexts.{same_refl}
use Rattle.text.proofs.Numerals.{numeral-length}
use Rattle.cell_permit.specs.CellPermit.{line_end}
use Rattle.file_lines.specs.Lines.{ecs}
use Rattle.mailed_lines.specs.Mailed.{ends_in_cr, line_of, unblanked, is_ecs, fate_of}
use Rattle.mailed_lines.specs.Saying.{said, faults_said, out_said}
use Rattle.mailed_lines.specs.declared.Fate.{Fate}
use Rattle.mailed_lines.specs.declared.Fate.TheVariants.{Kept, Last, Out}
use Rattle.mailed_lines.proofs.Fates.{ecs-raised}
use Rattle.mailed_lines.proofs.Lines.{no_cr_shown, unblanked_short, no_blank_shown}
use Rattle.mailed_lines.proofs.SaidTexts.{out_length}
use Rattle.mended_lines.specs.Gives.{Gives, faults_of, header_gives, gives_by, unended_gives}
use Rattle.mended_lines.specs.Giving.{last_gives, added_said}

-- what is put into the file and into the list
abbrev pub gives : List ℕ → List ℕ → Bool → Gives
gives file list more = record { file = file; list = list; more = more }

-- of two numbers of which the first is no larger, it is smaller where they differ
not_equal : (k n : ℕ) → k ≤ n → ltb k n ≡ not (eqb k n)
not_equal k n most =
    either (ltb k n)
    (λ less. rw (less, ne_eqb k n (λ e. omega (arith, ltb-true k n less))))
    (λ no_less. rw (no_less, eq-eqb k n (omega (arith, ltb-false k n no_less))))

-- a line has blanks at its end where fewer bytes are left without them
blank_shown : (line : List ℕ) → not (same_text (unblanked line) line) ≡ ltb (length (unblanked line)) (length line)
blank_shown line = ap not (no_blank_shown line) ∙ sym (not_equal (length (unblanked line)) (length line) (unblanked_short line))

-- what is said of a line as it is mended
faults_shown : (eol case : Bool) (count : ℕ) (line mended : List ℕ) → case ≡ not (same_text mended (unblanked line))
    → faults_of eol count line mended ≡ faults_said eol (ltb (length (unblanked line)) (length line)) case count
faults_shown eol case count line mended shown = ap₂ (λ (b c : Bool). faults_said eol b c count) (blank_shown line) (sym shown)

-- :ECS has small letters where it is not :ECS in capitals
ecs_case_shown : (line : List ℕ) → is_ecs line ≡ true → (raised : Bool) → raised ≡ same_text (raised_text line) line → not raised ≡ not (same_text ecs line)
ecs_case_shown line ended raised told = ap not (told ∙ ap (λ (l : List ℕ). same_text l line) (ecs-raised line ended))

-- :ECS and what stands after it, once its letters were looked at
pub told_gives : (eol blank : Bool) (count : ℕ) (line after : List ℕ) (raised : Bool) → raised ≡ same_text (raised_text line) line
    → last_gives eol blank count line after ≡ gives ((ecs ++ line_end) ++ after) (faults_said eol blank (not raised) count) false
told_gives eol blank count line after raised told =
    ap (λ (b : Bool). gives ((ecs ++ line_end) ++ after) (faults_said eol blank (not b) count) false) (sym told)

-- a line that LF ends, and what is left of it without the blanks at its end
module _ (count : ℕ) (text line left : List ℕ) (of_text : line ≡ line_of text) (of_line : left ≡ unblanked line) where
  -- what is said of it: no CR stood before its LF where the line is the whole text
  all_faults_shown : (case : Bool) (mended : List ℕ) → case ≡ not (same_text mended left)
      → faults_of (not (ends_in_cr text)) count (line_of text) mended ≡ faults_said (eqb (length line) (length text)) (ltb (length left) (length line)) case count
  all_faults_shown case mended shown =
      rw of_line (rw of_text
      (ap (λ (e : Bool). faults_of e count (line_of text) mended) (no_cr_shown text)
      ∙ faults_shown (eqb (length (line_of text)) (length text)) case count (line_of text) mended (rw (of_line, of_text) at shown)))

  -- one of the first three
  pub header_gives_lem : (raised : Bool) → raised ≡ same_text (raised_text left) left
      → header_gives count text ≡ gives (raised_text left ++ line_end) (faults_said (eqb (length line) (length text)) (ltb (length left) (length line)) (not raised) count) true
  unfolding header_gives
  header_gives_lem raised told =
      ap₂ (λ (f l : List ℕ). gives f l true)
      (ap (λ (l : List ℕ). raised_text l ++ line_end) (sym (of_line ∙ ap unblanked of_text)))
      (ap (λ (l : List ℕ). faults_of (not (ends_in_cr text)) count (line_of text) (raised_text l)) (sym (of_line ∙ ap unblanked of_text))
      ∙ all_faults_shown (not raised) (raised_text left) (ap not told))

  -- one that is kept: no letter is raised
  pub kept_gives : (after : List ℕ) → gives_by Kept count text after ≡ gives (left ++ line_end) (faults_said (eqb (length line) (length text)) (ltb (length left) (length line)) false count) true
  kept_gives after =
      ap₂ (λ (f l : List ℕ). gives f l true)
      (ap (λ (l : List ℕ). l ++ line_end) (sym (of_line ∙ ap unblanked of_text)))
      (ap (λ (l : List ℕ). faults_of (not (ends_in_cr text)) count (line_of text) l) (sym (of_line ∙ ap unblanked of_text))
      ∙ all_faults_shown false left (sym (ap not (same_refl left))))

  -- :ECS, and what stands after it
  pub last_gives_lem : (after : List ℕ) → is_ecs left ≡ true
      → gives_by Last count text after ≡ last_gives (eqb (length line) (length text)) (ltb (length left) (length line)) count left after
  last_gives_lem after ended =
      ap (λ (l : List ℕ). gives ((ecs ++ line_end) ++ after) l false)
      (all_faults_shown (not (same_text (raised_text left) left)) ecs (ecs_case_shown left ended (same_text (raised_text left) left) refl))

  -- one that is left out
  pub out_gives : (after : List ℕ) → gives_by Out count text after ≡ gives [] (out_said count line) true
  out_gives after = ap (λ (l : List ℕ). gives [] (out_said count l) true) (sym of_text)

  -- by what becomes of what is left
  pub by_fate : (fate : Fate) (after : List ℕ) → fate_of left ≡ fate → gives_by (fate_of (unblanked (line_of text))) count text after ≡ gives_by fate count text after
  by_fate fate after is =
      ap (λ (f : Fate). gives_by f count text after) (ap fate_of (sym (of_line ∙ ap unblanked of_text)) ∙ is)

-- the list's lines where :ECS is added: nothing was there
pub none_said : (count next : ℕ) (line : List ℕ) → length line ≡ 0 → added_said count next line ≡ numeral count ++ ascii " ECS\n"
unfolding added_said said
none_said count next [] none = refl
none_said count next (c ∷ line) none = absurd (omega arith)

-- or a line that is left out
pub some_said : (count next : ℕ) (line : List ℕ) → (length line ≡ 0 → ⊥) → added_said count next line ≡ out_said count line ++ (numeral next ++ ascii " ECS\n")
unfolding added_said said
some_said count next [] some = absurd (some refl)
some_said count next (c ∷ line) some = refl

-- how long that line is, and both are, by the digits of their counts
pub added_sizes : (count next : ℕ) (line : List ℕ) (w v : ℕ) → w ≡ width count → v ≡ width next
    → (w + length line + 6 ≡ length (out_said count line)) × (w + length line + 6 + v + 5 ≡ length (out_said count line ++ (numeral next ++ ascii " ECS\n")))
added_sizes count next line w v first second =
    let out : w + length line + 6 ≡ length (out_said count line) = omega (arith, out_length count line) in
    let ended : length (numeral next ++ ascii " ECS\n") ≡ v + 5 = omega (arith, length-append (numeral next) (ascii " ECS\n"), numeral-length next) in
    (out, omega (arith, length-append (out_said count line) (numeral next ++ ascii " ECS\n")))

-- what is not :ECS
pub added_gives : (count next : ℕ) (line : List ℕ) → is_ecs (unblanked line) ≡ false
    → unended_gives count next line ≡ gives (ecs ++ line_end) (added_said count next line) false
unfolding unended_gives added_said
added_gives count next [] other = refl
added_gives count next (c ∷ line) other = rw other

-- :ECS
pub ecs_gives : (count next : ℕ) (line left : List ℕ) → left ≡ unblanked line → is_ecs left ≡ true
    → (raised : Bool) → raised ≡ same_text (raised_text left) left
    → unended_gives count next line ≡ gives ecs (faults_said false (ltb (length left) (length line)) (not raised) count) false
unfolding unended_gives is_ecs unblanked same_text
ecs_gives count next [] left of_line ended raised told = let none = rw of_line at ended in cc
ecs_gives count next (c ∷ line) left of_line ended raised told =
    rw of_line
    (rw (rw of_line at ended)
    (ap (λ (l : List ℕ). gives ecs l false)
    (faults_shown false (not raised) count (c ∷ line) ecs
    (ecs_case_shown (unblanked (c ∷ line)) (rw of_line at ended) raised (rw of_line at told)))))
