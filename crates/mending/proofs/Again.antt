-- What was mended stays as it is, and nothing is listed exactly where nothing was changed.
-- Assumes nothing.
use mathlib.Core.Path.{◌≡◌, refl, sym, ap, subst, ◌∙◌}
use mathlib.Core.Bool.{Bool, true, false, not}
use mathlib.Core.List.{List, [], ◌∷◌, ◌++◌, append_assoc}
use Prim.Native.Nat.{ℕ, suc}
use native.Mathlib.Omega.{arith}
use borrow.Author.Tests.{not-false}
use Rattle.octets.specs.Every.{all_of}
use Rattle.octets.proofs.Every.{either}
use Rattle.text.specs.Ascii.{ascii}
use Rattle.text.specs.Characters.{raised, raised_text}
use Rattle.text.specs.Texts.{same_text, onto}
use Rattle.text.proofs.SameTexts.{same_true, same_refl}
use Rattle.text.proofs.TextsAt.{all_append}
use Rattle.cell_permit.specs.CellPermit.{line_end}
use Rattle.file_lines.specs.Lines.{ecs}
use Rattle.permit_file.specs.File.{is_header}
use Rattle.permit_file.proofs.Headers.{header_within}
use Rattle.mailed_lines.specs.Texts.{texts_of, joined}
use Rattle.mailed_lines.specs.Mailed.{ends_in_cr, line_of, unblanked, before_rest, is_ecs, fate_of}
use Rattle.mailed_lines.specs.declared.Fate.{Fate}
use Rattle.mailed_lines.specs.declared.Fate.TheVariants.{Kept, Last, Out}
use Rattle.mailed_lines.proofs.CutTexts.{not_lf, AllWithout, never_empty, joined_texts, texts_without, text_before}
use Rattle.mailed_lines.proofs.Lines.{line_before_cr, cr_at_end, line_and_cr, unblanked_stays, raised_twice, raised-unblanked, line_without, unblanked_without, raised_without}
use Rattle.mailed_lines.proofs.SaidTexts.{said_some, out_some, faults_none, none_said}
use Rattle.mended_lines.specs.Gives.{faults_of, header_gives, gives_by, unended_gives}
use Rattle.mending.specs.Mending.{Mended, gives_of, followed, mended_from, mended_texts, mended_of, is_mended}
use Rattle.mending.specs.Again.{MendedStays, ListedExactly}

-- a file of which nothing is said
abbrev pub clean : List ℕ → Mended
clean file = record { file = file; list = [] }

-- nothing is said of a line that is as it should be
good_said : (count : ℕ) (line : List ℕ) → unblanked line ≡ line → faults_of false count line line ≡ []
good_said count line plain = rw (plain, same_refl line) (none_said count)

-- a line with CR LF, before a file: that is its first text
pub ended_text : (line file : List ℕ) → all_of not_lf line ≡ true → texts_of ((line ++ line_end) ++ file) ≡ (line ++ (13 ∷ [])) ∷ texts_of file
unfolding all_of
ended_text line file none =
    let whole : (line ++ line_end) ++ file ≡ (line ++ (13 ∷ [])) ++ (10 ∷ file) =
    append_assoc line line_end file ∙ sym (append_assoc line (13 ∷ []) (10 ∷ file)) in
    ap texts_of whole
    ∙ text_before (line ++ (13 ∷ [])) file (all_append not_lf line (13 ∷ []) ∙ rw none)

module _ (count : ℕ) (file : List ℕ) where
  -- the first text of a file whose first line is ended, and then those of the rest
  first_gives_lem : (text : List ℕ) → mended_from count (text ∷ texts_of file) ≡ followed (gives_by (fate_of (unblanked (line_of text))) count text (joined (texts_of file))) (mended_from (suc count) (texts_of file))
  unfolding mended_from gives_of
  first_gives_lem text = rw (never_empty file)

  -- a kept line, mended
  kept_again : (line : List ℕ) → all_of not_lf line ≡ true → unblanked line ≡ line → fate_of line ≡ Kept → mended_from (suc count) (texts_of file) ≡ clean file
      → mended_from count (texts_of ((line ++ line_end) ++ file)) ≡ clean ((line ++ line_end) ++ file)
  kept_again line none plain kept later =
      ap (mended_from count) (ended_text line file none)
      ∙ first_gives_lem (line ++ (13 ∷ []))
      ∙ rw (line_before_cr line, plain, kept, line_before_cr line, plain, cr_at_end line, later, same_refl line, none_said count)

  -- :ECS, and what follows it
  ecs_again : mended_from count (texts_of ((ecs ++ line_end) ++ file)) ≡ clean ((ecs ++ line_end) ++ file)
  unfolding all_of unblanked before_rest fate_of is_ecs same_text line_of ends_in_cr raised
  ecs_again =
      ap (mended_from count) (ended_text ecs file refl)
      ∙ first_gives_lem (ecs ++ (13 ∷ []))
      ∙ rw (joined_texts file, none_said count)

-- :ECS that nothing ends
ecs_alone : (count : ℕ) → mended_from count (texts_of ecs) ≡ clean ecs
unfolding mended_from gives_of unended_gives texts_of onto unblanked before_rest is_ecs same_text raised
ecs_alone count = rw (none_said count)

-- a text that LF ends, by what becomes of it, where those after it stay
module _ (count again : ℕ) (text next : List ℕ) (rest : List (List ℕ)) (none : all_of not_lf text ≡ true) where
  stays_by
      : ((k : ℕ) → mended_from k (texts_of (mended_from (suc count) (next ∷ rest)).file) ≡ clean (mended_from (suc count) (next ∷ rest)).file)
      → (f : Fate) → fate_of (unblanked (line_of text)) ≡ f
      → mended_from again (texts_of (mended_from count (text ∷ next ∷ rest)).file) ≡ clean (mended_from count (text ∷ next ∷ rest)).file
  unfolding mended_from gives_of
  stays_by later Kept kept =
      rw kept
      (kept_again again (mended_from (suc count) (next ∷ rest)).file (unblanked (line_of text))
      (unblanked_without (line_of text) (line_without text none)) (unblanked_stays (line_of text)) kept (later (suc again)))
  stays_by later Last last = rw last (ecs_again again (joined (next ∷ rest)))
  stays_by later Out out = rw out (later again)

-- the mended texts, mended again, however they are counted
stays_from : (count again : ℕ) (text : List ℕ) (rest : List (List ℕ)) → AllWithout (text ∷ rest)
    → mended_from again (texts_of (mended_from count (text ∷ rest)).file) ≡ clean (mended_from count (text ∷ rest)).file
unfolding mended_from gives_of unended_gives
stays_from count again [] [] none = ecs_again again []
stays_from count again (c ∷ line) [] none =
    either (is_ecs (unblanked (c ∷ line)))
    (λ is. rw is (ecs_alone again))
    (λ other. rw other (ecs_again again []))
stays_from count again text (next ∷ rest) none =
    stays_by count again text next rest none.0 (λ k. stays_from (suc count) k next rest none.1) (fate_of (unblanked (line_of text))) refl

-- a header line, mended
abbrev pub header_line : List ℕ → List ℕ
header_line text = raised_text (unblanked (line_of text))

pub header_without : (text : List ℕ) → all_of not_lf text ≡ true → all_of not_lf (header_line text) ≡ true
header_without text none = raised_without (unblanked (line_of text)) (unblanked_without (line_of text) (line_without text none))

-- mended again it is the same, and nothing is said of it
header_again : (count : ℕ) (text : List ℕ) → header_gives count (header_line text ++ (13 ∷ [])) ≡ record { file = header_line text ++ line_end; list = []; more = true }
unfolding header_gives
header_again count text =
    let line = header_line text in
    rw (line_before_cr line, cr_at_end line, raised-unblanked (line_of text), raised_twice (unblanked (line_of text)), same_refl line, none_said count)

-- three header lines before texts
pub headed : (one two three : List ℕ) (file : List ℕ)
    → mended_texts (one ∷ two ∷ three ∷ texts_of file)
    ≡ followed (header_gives 1 one) (followed (header_gives 2 two) (followed (header_gives 3 three) (mended_from 4 (texts_of file))))
unfolding mended_texts
headed one two three file = rw (never_empty file)

module _ (one two three : List ℕ) (next : List ℕ) (rest : List (List ℕ)) where
  abbrev texts : List (List ℕ)
  texts = one ∷ two ∷ three ∷ next ∷ rest

  -- the mended file, in its lines
  pub header_lines : (mended_texts texts).file
      ≡ (header_line one ++ line_end) ++ ((header_line two ++ line_end) ++ ((header_line three ++ line_end) ++ (mended_from 4 (next ∷ rest)).file))
  unfolding mended_texts header_gives
  header_lines = refl

  module _ (none : AllWithout texts) where
    -- cut again, these are its first texts
    pub header-texts : texts_of (mended_texts texts).file
        ≡ (header_line one ++ (13 ∷ [])) ∷ (header_line two ++ (13 ∷ [])) ∷ (header_line three ++ (13 ∷ [])) ∷ texts_of (mended_from 4 (next ∷ rest)).file
    header-texts =
        let last = (mended_from 4 (next ∷ rest)).file in
        ap texts_of header_lines
        ∙ ended_text (header_line one) _ (header_without one none.0)
        ∙ ap (λ (l : List (List ℕ)). (header_line one ++ (13 ∷ [])) ∷ l)
        (ended_text (header_line two) _ (header_without two none.1.0)
        ∙ ap (λ (l : List (List ℕ)). (header_line two ++ (13 ∷ [])) ∷ l)
        (ended_text (header_line three) last (header_without three none.1.1.0)))

    texts-stay : mended_of (mended_texts texts).file ≡ clean (mended_texts texts).file
    unfolding mended_of
    texts-stay =
        let last = (mended_from 4 (next ∷ rest)).file in
        ap mended_texts header-texts
        ∙ headed (header_line one ++ (13 ∷ [])) (header_line two ++ (13 ∷ [])) (header_line three ++ (13 ∷ [])) last
        ∙ rw (header_again 1 one, header_again 2 two, header_again 3 three, stays_from 4 4 next rest none.1.1.1, header_lines)

-- three header lines that LF ends, and what follows them
record Headed (texts : List (List ℕ)) : Type 0 where
  pub one : List ℕ
  pub two : List ℕ
  pub three : List ℕ
  pub next : List ℕ
  pub rest : List (List ℕ)
  pub whole : texts ≡ one ∷ two ∷ three ∷ next ∷ rest

-- a good header has them: fewer texts give nothing
nothing_good : is_header [] ≡ true → ⊥
nothing_good good = omega (arith, header_within [] good)

has_header : (texts : List (List ℕ)) → is_header (mended_texts texts).file ≡ true → Headed texts
unfolding mended_texts
has_header [] good = absurd (nothing_good good)
has_header (one ∷ []) good = absurd (nothing_good good)
has_header (one ∷ two ∷ []) good = absurd (nothing_good good)
has_header (one ∷ two ∷ three ∷ []) good = absurd (nothing_good good)
has_header (one ∷ two ∷ three ∷ next ∷ rest) good = record { one = one; two = two; three = three; next = next; rest = rest; whole = refl }

module _ (file : List ℕ) (good : is_mended file ≡ true) where
  file_headed : Headed (texts_of file)
  unfolding is_mended mended_of
  file_headed = has_header (texts_of file) good

  -- what holds of every such header and texts holds of the file's
  pub for-headed
      : (P : List (List ℕ) → Type 0)
      → ((one two three next : List ℕ) (rest : List (List ℕ)) → AllWithout (one ∷ two ∷ three ∷ next ∷ rest)
      → is_header (mended_texts (one ∷ two ∷ three ∷ next ∷ rest)).file ≡ true → P (one ∷ two ∷ three ∷ next ∷ rest))
      → P (texts_of file)
  unfolding is_mended mended_of
  for-headed P all =
      let h = file_headed in
      subst P (sym h.whole)
      (all h.one h.two h.three h.next h.rest (subst AllWithout h.whole (texts_without file))
      (sym (ap (λ (l : List (List ℕ)). is_header (mended_texts l).file) h.whole) ∙ good))

  stays : mended_of (mended_of file).file ≡ clean (mended_of file).file
  unfolding mended_of
  stays =
      for-headed (λ (texts : List (List ℕ)). mended_texts (texts_of (mended_texts texts).file) ≡ clean (mended_texts texts).file)
      (λ one two three next rest none head. texts-stay one two three next rest none)

pub mended_stays : MendedStays
unfolding is_mended
mended_stays file good = (ap (λ (m : Mended). is_header m.file) (stays file good) ∙ good, stays file good)

-- two texts of which one follows the other are empty only together
both_empty : (a b : List ℕ) → a ++ b ≡ [] → (a ≡ []) × (b ≡ [])
both_empty [] b none = (refl, none)
both_empty (c ∷ a) b none = (cc, cc)

-- nothing is said of a line: it ends in CR, has no blanks at its end, and is what it comes to
module _ (count : ℕ) (line mended : List ℕ) where
  unsaid : (eol : Bool) → faults_of eol count line mended ≡ [] → (eol ≡ false) × (mended ≡ line)
  unsaid eol none =
      let no = faults_none eol (not (same_text (unblanked line) line)) (not (same_text mended (unblanked line))) count none in (
        no.0,
        same_true mended (unblanked line) (not-false (same_text mended (unblanked line)) no.1.1)
            ∙ same_true (unblanked line) line (not-false (same_text (unblanked line) line) no.1.0),
      )

-- so the text stands as it stood, with what follows it
unsaid_text : (count : ℕ) (text mended after : List ℕ) → faults_of (not (ends_in_cr text)) count (line_of text) mended ≡ []
    → (mended ++ line_end) ++ after ≡ text ++ (10 ∷ after)
unsaid_text count text mended after none =
    let no = unsaid count (line_of text) mended (not (ends_in_cr text)) none in
    let cr : text ≡ line_of text ++ (13 ∷ []) = line_and_cr text (not-false (ends_in_cr text) no.0) in
    ap (λ (l : List ℕ). (l ++ line_end) ++ after) no.1
    ∙ append_assoc (line_of text) line_end after
    ∙ sym (append_assoc (line_of text) (13 ∷ []) (10 ∷ after))
    ∙ ap (λ (l : List ℕ). l ++ (10 ∷ after)) (sym cr)

module _ (count : ℕ) (text next : List ℕ) (rest : List (List ℕ)) where
  same_by
      : ((mended_from (suc count) (next ∷ rest)).list ≡ [] → (mended_from (suc count) (next ∷ rest)).file ≡ joined (next ∷ rest))
      → (f : Fate) → fate_of (unblanked (line_of text)) ≡ f
      → (mended_from count (text ∷ next ∷ rest)).list ≡ [] → (mended_from count (text ∷ next ∷ rest)).file ≡ joined (text ∷ next ∷ rest)
  unfolding mended_from gives_of joined
  same_by later Kept kept none =
      let both = both_empty _ _ (rw kept at none) in
      rw (kept, later both.1) (unsaid_text count text (unblanked (line_of text)) (joined (next ∷ rest)) both.0)
  same_by later Last last none = rw last (unsaid_text count text ecs (joined (next ∷ rest)) (rw last at none))
  same_by later Out out none = absurd (out_some count (line_of text) (both_empty _ _ (rw out at none)).0)

-- where nothing is listed the texts stand as they stood
same_from : (count : ℕ) (text : List ℕ) (rest : List (List ℕ)) → (mended_from count (text ∷ rest)).list ≡ []
    → (mended_from count (text ∷ rest)).file ≡ joined (text ∷ rest)
unfolding mended_from gives_of unended_gives joined
same_from count [] [] none = absurd (said_some count (ascii "ECS") none)
same_from count (c ∷ line) [] none =
    either (is_ecs (unblanked (c ∷ line)))
    (λ is. rw is (unsaid count (c ∷ line) ecs false (rw is at none)).1)
    (λ other. absurd (out_some count (c ∷ line) (both_empty _ _ (rw other at none)).0))
same_from count text (next ∷ rest) none =
    same_by count text next rest (same_from (suc count) next rest) (fate_of (unblanked (line_of text))) refl none

same_texts : (one two three next : List ℕ) (rest : List (List ℕ)) → (mended_texts (one ∷ two ∷ three ∷ next ∷ rest)).list ≡ []
    → (mended_texts (one ∷ two ∷ three ∷ next ∷ rest)).file ≡ joined (one ∷ two ∷ three ∷ next ∷ rest)
unfolding mended_texts header_gives joined
same_texts one two three next rest none =
    let first = both_empty _ _ none in
    let second = both_empty _ _ first.1 in
    let third = both_empty _ _ second.1 in
    rw (same_from 4 next rest third.1)
    (rw (unsaid_text 3 three (header_line three) (joined (next ∷ rest)) third.0)
    (rw (unsaid_text 2 two (header_line two) (three ++ (10 ∷ joined (next ∷ rest))) second.0)
    (unsaid_text 1 one (header_line one) (two ++ (10 ∷ (three ++ (10 ∷ joined (next ∷ rest))))) first.0)))

pub listed_exactly : ListedExactly
unfolding mended_of
listed_exactly file good = (unchanged, unlisted)
  where
    unchanged : (mended_of file).list ≡ [] → (mended_of file).file ≡ file
    unchanged none =
        for-headed file good (λ (texts : List (List ℕ)). (mended_texts texts).list ≡ [] → (mended_texts texts).file ≡ joined texts)
        (λ one two three next rest no-lf head. same_texts one two three next rest) none
        ∙ joined_texts file

    unlisted : (mended_of file).file ≡ file → (mended_of file).list ≡ []
    unlisted same = sym (ap (λ (l : List ℕ). (mended_of l).list) same) ∙ ap (λ (m : Mended). m.list) (stays file good)
