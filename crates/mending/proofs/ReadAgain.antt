-- The mended file is read as its kept lines are, one by one, and gives no 12.
-- Assumes nothing.
use Rattle.std.specs.Prelude.{Result}
use Rattle.forms.specs.declared.refusals.Refusal.{Refusal}
use Rattle.cell_permit.specs.declared.Record.{Record}
use mathlib.Core.Path.{◌≡◌, refl, sym, ap, fun_ext, ◌∙◌}
use mathlib.Core.Bool.{true, false}
use mathlib.Core.List.{List, [], ◌∷◌, ◌++◌, map, append_assoc}
use Prim.Native.Nat.{ℕ, suc}
use borrow.Author.Tests.{ne_eqb, not-true}
use lib.Dec.{eqb}
use lib.ListN.{drop}
use Rattle.octets.specs.Every.{all_of, count_of}
use Rattle.octets.proofs.Every.{either, never_both, all_first, all_rest}
use Rattle.text.specs.Characters.{raised}
use Rattle.text.specs.Texts.{same_text, onto}
use Rattle.text.proofs.SameTexts.{same_true}
use Rattle.forms.proofs.Numbered.{none_refused}
use Rattle.cell_permit.specs.CellPermit.{ship_words, line_end}
use Rattle.cell_permit.specs.Line.{is_line, read_with, given_answer, given_number, read_line, line_number}
use Rattle.cell_permit.proofs.LineNumbers.{shape_no_12}
use Rattle.file_lines.specs.Lines.{ecs}
use Rattle.file_lines.specs.EncPart.{lines_of, enc_lines, is_closed}
use Rattle.file_lines.proofs.Walks.{lines_join, enc_more, enc_none}
use Rattle.permit_file.specs.File.{is_header, step_by}
use Rattle.permit_file.specs.Answers.{enc_answers}
use Rattle.permit_file.proofs.Answers.{answers_of_lines}
use Rattle.permit_file.proofs.Headers.{header_within}
use Rattle.permit_file.proofs.Steps.{given_good}
use Rattle.mailed_lines.specs.Texts.{texts_of, joined}
use Rattle.mailed_lines.specs.Mailed.{line_of, unblanked, is_ecs, fate_of}
use Rattle.mailed_lines.specs.declared.Fate.{Fate}
use Rattle.mailed_lines.specs.declared.Fate.TheVariants.{Kept, Last, Out}
use Rattle.mailed_lines.proofs.CutTexts.{not_lf, AllWithout}
use Rattle.mailed_lines.proofs.Lines.{line_without, unblanked_without}
use Rattle.mailed_lines.proofs.Fates.{kept_is}
use Rattle.mended_lines.specs.Gives.{unended_gives}
use Rattle.mending.specs.Mending.{mended_from, gives_of, mended_texts, mended_of, is_mended}
use Rattle.mending.specs.ReadAgain.{kept_by, kept_from, kept_lines, ReadsAsKept, is_twelve, NoTwelve}
use Rattle.mending.proofs.Again.{for-headed}
use Rattle.mending.proofs.GoodHeaders.{after_header_lem}

-- a line without LF has no CR LF
line_alone : (l : List ℕ) → all_of not_lf l ≡ true → lines_of l ≡ l ∷ []
unfolding lines_of onto
line_alone [] none = refl
line_alone (c ∷ []) none = refl
line_alone (c ∷ d ∷ s) none =
    let rest = all_rest not_lf c (d ∷ s) none in
    let other : eqb d 10 ≡ false = not-true (eqb d 10) (all_first not_lf d s rest) in
    either (eqb c 13)
    (λ cr. rw (cr, other, line_alone (d ∷ s) rest))
    (λ no. rw (no, line_alone (d ∷ s) rest))

-- before CR LF it is the first
line_first : (l s : List ℕ) → all_of not_lf l ≡ true → lines_of ((l ++ line_end) ++ s) ≡ l ∷ lines_of s
line_first l s none =
    ap lines_of (append_assoc l line_end s) ∙ lines_join l s ∙ ap (λ (ls : List (List ℕ)). ls ++ lines_of s) (line_alone l none)

-- a line that is no :ECS in any case is none in capitals
no_ecs : (l : List ℕ) → is_ecs l ≡ false → same_text l ecs ≡ false
unfolding is_ecs raised same_text
no_ecs l other =
    either (same_text l ecs)
    (λ same. absurd (never_both (is_ecs l) other (ap is_ecs (same_true l ecs same))))
    (λ differ. differ)

-- the ENC part of the mended texts: the kept lines, and :ECS closes it
abbrev EncIs : ℕ → List (List ℕ) → Type 0
EncIs count texts = (enc_lines (lines_of (mended_from count texts).file) ≡ kept_from texts) × (is_closed (lines_of (mended_from count texts).file) ≡ true)

module _ (count : ℕ) (text next : List ℕ) (rest : List (List ℕ)) (none : all_of not_lf text ≡ true) where
  enc_by : EncIs (suc count) (next ∷ rest) → (f : Fate) → fate_of (unblanked (line_of text)) ≡ f → EncIs count (text ∷ next ∷ rest)
  unfolding mended_from gives_of kept_from all_of same_text
  enc_by later Kept kept =
      let line = unblanked (line_of text) in
      let after = (mended_from (suc count) (next ∷ rest)).file in
      let more = enc_more line after (no_ecs line (kept_is line kept).1) in
      rw (kept, line_first line after (unblanked_without (line_of text) (line_without text none)))
      (more.0 ∙ ap (λ (l : List (List ℕ)). line ∷ l) later.0, more.1 ∙ later.1)
  enc_by later Last last = rw (last, line_first ecs (joined (next ∷ rest)) refl) (enc_none ecs (joined (next ∷ rest)) refl)
  enc_by later Out out = rw out later

enc_kept : (count : ℕ) (text : List ℕ) (rest : List (List ℕ)) → AllWithout (text ∷ rest) → EncIs count (text ∷ rest)
unfolding mended_from gives_of unended_gives kept_from lines_of enc_lines is_closed same_text onto
enc_kept count [] [] none = (refl, refl)
enc_kept count (c ∷ line) [] none =
    either (is_ecs (unblanked (c ∷ line))) (λ is. rw is (refl, refl)) (λ other. rw other (refl, refl))
enc_kept count text (next ∷ rest) none =
    enc_by count text next rest none.0 (enc_kept (suc count) next rest none.1) (fate_of (unblanked (line_of text))) refl

module _ (file : List ℕ) (good : is_mended file ≡ true) where
  abbrev mended : List ℕ
  mended = (mended_of file).file

  good_header : is_header mended ≡ true
  unfolding is_mended
  good_header = good

  pub enc_part : (enc_lines (lines_of (drop 40 mended)) ≡ kept_lines file) × (is_closed (lines_of (drop 40 mended)) ≡ true)
  unfolding mended_of
  enc_part =
      for-headed file good
      (λ (texts : List (List ℕ)).
      (enc_lines (lines_of (drop 40 (mended_texts texts).file)) ≡ kept_from (drop 3 texts)) × (is_closed (lines_of (drop 40 (mended_texts texts).file)) ≡ true))
      (λ one two three next rest none head.
      rw (after_header_lem one two three next rest none head) (enc_kept 4 next rest none.1.1.1))

pub reads_as_kept : ReadsAsKept
reads_as_kept read file good =
    answers_of_lines read (mended_of file).file (header_within (mended_of file).file (good_header file good)) (enc_part file good).1
    ∙ ap (map read) (enc_part file good).0

-- each kept line has the shape
abbrev Shaped : List (List ℕ) → Type 0
Shaped [] = Unit {0}
Shaped (l ∷ ls) = (is_line l ≡ true) × Shaped ls

shaped_by : (f : Fate) (l : List ℕ) (ls : List (List ℕ)) → (f ≡ Kept → is_line l ≡ true) → Shaped ls → Shaped (kept_by f l ls)
shaped_by Kept l ls good later = (good refl, later)
shaped_by Last l ls good later = tt
shaped_by Out l ls good later = later

kept_shaped : (texts : List (List ℕ)) → Shaped (kept_from texts)
unfolding kept_from
kept_shaped [] = tt
kept_shaped (text ∷ []) = tt
kept_shaped (text ∷ next ∷ rest) =
    let line = unblanked (line_of text) in
    shaped_by (fate_of line) line (kept_from (next ∷ rest)) (λ kept. (kept_is line kept).0) (kept_shaped (next ∷ rest))

-- and so none is answered with 12
none_twelve : (words : List ℕ) (today days : ℕ) (ls : List (List ℕ)) → Shaped ls → count_of is_twelve (map (read_with words today days) ls) ≡ 0
unfolding count_of
none_twelve words today days [] shaped = refl
none_twelve words today days (l ∷ ls) shaped =
    rw (ne_eqb (line_number (read_with words today days l)) 12 (shape_no_12 words today days l shaped.0))
    (none_twelve words today days ls shaped.1)

-- with what is given good, a line is read under the ship's words
read_good : (hw today days : ℕ) → given_number hw today days ≡ 0 → read_line hw today days ≡ read_with (ship_words hw) today days
unfolding read_line
read_good hw today days good = fun_ext (λ line. rw (none_refused (given_answer hw today days) good))

pub no_twelve : NoTwelve
no_twelve hw today days file given good =
    let read = read_good hw today days given in (
      λ place.
          given_good hw today days (mended_of file).file place (given_number hw today days) refl given
          ∙ ap (λ (r : List ℕ → Result Record Refusal). step_by r (mended_of file).file place) (sym read),
      reads-count read,
    )
  where
    reads-count : read_line hw today days ≡ read_with (ship_words hw) today days → count_of is_twelve (enc_answers (read_line hw today days) (mended_of file).file) ≡ 0
    reads-count read =
        ap (λ (r : List ℕ → Result Record Refusal). count_of is_twelve (enc_answers r (mended_of file).file)) read
        ∙ ap (count_of is_twelve) (reads_as_kept (read_with (ship_words hw) today days) file good)
        ∙ none_twelve (ship_words hw) today days (kept_lines file) (kept_shaped (drop 3 (texts_of file)))
