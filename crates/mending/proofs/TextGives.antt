-- What the text at a place gives: by whether LF ends it, how long it is, and that the rest follows it.
-- Assumes nothing.
use mathlib.Core.Path.{◌≡◌, refl, sym, ap, ap₂, subst, ◌∙◌}
use mathlib.Core.Bool.{true, false, not}
use mathlib.Core.List.{List, [], ◌∷◌, ◌++◌}
use Prim.Native.Nat.{ℕ, suc, ◌+◌, ◌-◌, ◌*◌, ◌≤◌, ◌<◌}
use native.Mathlib.Numerals.{add-one}
use native.Mathlib.Omega.{arith}
use borrow.Author.Tests.{ltb-true, ltb-false}
use lib.Dec.{ltb}
use lib.ListN.{length, take, drop, length-append, length-take, length-drop}
use lib.Seq.{take_all}
use Rattle.octets.proofs.Every.{either, never_both}
use Rattle.text.specs.Ascii.{ascii}
use Rattle.text.specs.Texts.{width, same_text}
use Rattle.cell_permit.specs.CellPermit.{line_end}
use Rattle.file_lines.specs.Lines.{ecs}
use Rattle.file_lines.specs.Texts.{text_ends}
use Rattle.mailed_lines.specs.Texts.{texts_of, joined}
use Rattle.mailed_lines.specs.Mailed.{ends_in_cr, line_of, unblanked, is_ecs, fate_of}
use Rattle.mailed_lines.specs.Saying.{said, out_said}
use Rattle.mailed_lines.specs.declared.Fate.{Fate}
use Rattle.mailed_lines.specs.declared.Fate.TheVariants.{Kept, Last, Out}
use Rattle.mailed_lines.proofs.CutTexts.{never_empty, joined_texts, text_begins, text_ends_within, last_text_at, first_text_at}
use Rattle.mailed_lines.proofs.Lines.{line_short, unblanked_short}
use Rattle.mailed_lines.proofs.SaidTexts.{said-length, out_length, faults_length}
use Rattle.mended_lines.specs.Gives.{Gives, gives_by, unended_gives}
use Rattle.mended_lines.specs.Giving.{given, out_after, list_after}
use Rattle.mended_lines.specs.declared.Places.{Places}
use Rattle.mended_lines.specs.declared.Given.{Given}
use Rattle.mending.specs.Mending.{Mended, gives_of, followed, mended_from}
use Rattle.mending.specs.Walking.{first_gives, gives_at}

module _ (file : List ℕ) (place count : ℕ) where
  abbrev end : ℕ
  end = text_ends file place

  -- the text
  abbrev text : List ℕ
  text = take (end - place) (drop place file)

  -- what follows it
  abbrev after : List ℕ
  after = drop (end + 1) file

  -- a text and others
  abbrev ended_gives : List (List ℕ) → Gives
  ended_gives rest = first_gives count (text ∷ rest)

  -- what no LF ends
  pub gives_last : place ≤ length file → end ≡ length file → gives_at file place count ≡ unended_gives count (suc count) (drop place file)
  unfolding gives_at gives_of
  gives_last within whole = ap (first_gives count) (last_text_at file place within whole)

  -- what LF ends
  pub gives_ended : end < length file → gives_at file place count ≡ gives_by (fate_of (unblanked (line_of text))) count text after
  unfolding gives_at gives_of
  gives_ended less =
      ap (first_gives count) (first_text_at file place less ∙ ap (λ (l : List (List ℕ)). text ∷ l) (never_empty after))
      ∙ ap (gives_by (fate_of (unblanked (line_of text))) count text) (ap joined (sym (never_empty after)) ∙ joined_texts after)

-- nothing follows what no LF ends
last_more : (count : ℕ) (line : List ℕ) → (unended_gives count (suc count) line).more ≡ false
unfolding unended_gives
last_more count [] = refl
last_more count (c ∷ line) = either (is_ecs (unblanked (c ∷ line))) (λ is. rw is) (λ other. rw other)

last_followed : (g : Gives) (m k : Mended) → g.more ≡ false → followed g m ≡ followed g k
last_followed g m k none = rw none

-- what is given from a place on: by the text there, and then by those after it
module _ (file : List ℕ) (place count : ℕ) where
  abbrev next : Mended
  next = mended_from (count + 1) (texts_of (after file place count))

  turn_ended : text_ends file place < length file → mended_from count (texts_of (drop place file)) ≡ followed (gives_at file place count) next
  unfolding mended_from gives_at
  turn_ended less =
      let cut = first_text_at file place less in
      rw (cut, add-one count)

  turn_last : place ≤ length file → text_ends file place ≡ length file → mended_from count (texts_of (drop place file)) ≡ followed (gives_at file place count) next
  unfolding mended_from gives_of
  turn_last within whole =
      ap (mended_from count) (last_text_at file place within whole)
      ∙ last_followed (unended_gives count (suc count) (drop place file)) _ next (last_more count (drop place file))
      ∙ ap (λ (g : Gives). followed g next) (sym (gives_last file place count within whole))

  pub mended_turn : place ≤ length file → mended_from count (texts_of (drop place file)) ≡ followed (gives_at file place count) next
  mended_turn within =
      either (ltb (text_ends file place) (length file))
      (λ less. turn_ended (ltb-true (text_ends file place) (length file) less))
      (λ whole. turn_last within (omega (arith, text_ends_within file place within, ltb-false (text_ends file place) (length file) whole)))

  -- where lines after it are looked at, it is ended
  pub more_ended : place ≤ length file → (gives_at file place count).more ≡ true → text_ends file place < length file
  more_ended within more =
      either (ltb (text_ends file place) (length file))
      (λ less. ltb-true (text_ends file place) (length file) less)
      (λ whole.
      let last : text_ends file place ≡ length file = omega (arith, text_ends_within file place within, ltb-false (text_ends file place) (length file) whole) in
      absurd
      (never_both (gives_at file place count).more
      (ap (λ (g : Gives). g.more) (gives_last file place count within last) ∙ last_more count (drop place file)) more))

-- how long it is
module _ (count wide : ℕ) (few : width count ≤ wide) (next : width (suc count) ≤ wide) where
  ended_file : (f : Fate) (text after : List ℕ) → length (gives_by f count text after).file ≤ length text + (length after + 6)
  ended_file Kept text after =
      omega (arith, length-append (unblanked (line_of text)) line_end, unblanked_short (line_of text), line_short text)
  ended_file Last text after = omega (arith, length-append (ecs ++ line_end) after)
  ended_file Out text after = omega arith

  ended_list : (f : Fate) (text after : List ℕ) → length (gives_by f count text after).list ≤ length text + (3 * wide + 18)
  ended_list Kept text after =
      let line = line_of text in
      omega (arith, few, faults_length (not (ends_in_cr text)) (not (same_text (unblanked line) line)) (not (same_text (unblanked line) (unblanked line))) count)
  ended_list Last text after =
      let line = line_of text in
      omega (arith, few, faults_length (not (ends_in_cr text)) (not (same_text (unblanked line) line)) (not (same_text ecs (unblanked line))) count)
  ended_list Out text after = omega (arith, few, out_length count (line_of text), line_short text)

  unended_file : (line : List ℕ) → length (unended_gives count (suc count) line).file ≤ 6
  unfolding unended_gives
  unended_file [] = omega arith
  unended_file (c ∷ line) = either (is_ecs (unblanked (c ∷ line))) (λ is. rw is (omega arith)) (λ other. rw other (omega arith))

  unended_list : (line : List ℕ) → length (unended_gives count (suc count) line).list ≤ length line + (3 * wide + 18)
  unfolding unended_gives
  unended_list [] = omega (arith, few, said-length count (ascii "ECS"))
  unended_list (c ∷ line) =
      either (is_ecs (unblanked (c ∷ line)))
      (λ is.
      rw is
      (omega (arith, few, faults_length false (not (same_text (unblanked (c ∷ line)) (c ∷ line))) (not (same_text ecs (unblanked (c ∷ line)))) count)))
      (λ other.
      rw other
      (omega (
        arith,
        few,
        next,
        length-append (out_said count (c ∷ line)) (said (suc count) (ascii "ECS")),
        out_length count (c ∷ line),
        said-length (suc count) (ascii "ECS"),
      )))

  module _ (file : List ℕ) (place : ℕ) (within : place ≤ length file) where
    pub gives-bounds
        : (length (gives_at file place count).file ≤ length file - place + 6)
        × (length (gives_at file place count).list ≤ length file - place + (3 * wide + 18))
    gives-bounds =
        either (ltb (text_ends file place) (length file))
        (λ less.
        let h = ltb-true (text_ends file place) (length file) less in
        let t = text file place count in
        let rest = after file place count in
        let fate = fate_of (unblanked (line_of t)) in
        let size : length t ≤ text_ends file place - place = omega (arith, length-take (text_ends file place - place) (drop place file)) in
        let left : length rest ≡ length file - (text_ends file place + 1) = length-drop (text_ends file place + 1) file in
        rw (gives_ended file place count h) (
          omega (arith, ended_file fate t rest, text_begins file place),
          omega (arith, ended_list fate t rest, text_begins file place),
        ))
        (λ whole.
        let last : text_ends file place ≡ length file = omega (arith, text_ends_within file place within, ltb-false (text_ends file place) (length file) whole) in
        let size : length (drop place file) ≡ length file - place = length-drop place file in
        rw (gives_last file place count within last) (
          omega (arith, unended_file (drop place file)),
          omega (arith, unended_list (drop place file)),
        ))

-- as the code has its texts: parts of the file, with the ends that it found
module _ (file : List ℕ) (place end count : ℕ) (within : place ≤ length file) (is : end ≡ text_ends file place) where
  pub unended_part : end ≡ length file → gives_at file place count ≡ unended_gives count (count + 1) (take (length file - place) (drop place file))
  unended_part whole =
      gives_last file place count within (sym is ∙ whole)
      ∙ ap₂ (unended_gives count) (sym (add-one count)) (sym (take_all (length file - place) (drop place file) (omega (arith, length-drop place file))))

  pub ended_part : end < length file
      → gives_at file place count
      ≡ gives_by (fate_of (unblanked (line_of (take (end - place) (drop place file))))) count (take (end - place) (drop place file))
      (take (length file - (end + 1)) (drop (end + 1) file))
  ended_part less =
      rw (is, take_all (length file - (text_ends file place + 1)) (drop (text_ends file place + 1) file) (omega (arith, length-drop (text_ends file place + 1) file)))
      (gives_ended file place count (omega (arith, is)))

-- what was put for a line that gives the same
pub same_given : (g h : Gives) → g ≡ h → (at : Places) (out list : List ℕ) (r : Given) (out₁ list₁ : List ℕ)
    → (r ≡ given h) × ((out₁ ≡ out_after h at out) × (list₁ ≡ list_after h at list))
    → (r ≡ given g) × ((out₁ ≡ out_after g at out) × (list₁ ≡ list_after g at list))
same_given g h same at out list r out₁ list₁ put =
    subst (λ (x : Gives). (r ≡ given x) × ((out₁ ≡ out_after x at out) × (list₁ ≡ list_after x at list))) (sym same) put
