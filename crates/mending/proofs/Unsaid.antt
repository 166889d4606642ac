-- Each old line up to :ECS is kept or left out: what each gives makes up the mended file and the list, and nothing disappears unsaid.
-- Assumes nothing.
use mathlib.Core.Path.{◌≡◌, refl, sym, ap, subst, ◌∙◌}
use mathlib.Core.Bool.{true, false, not}
use mathlib.Core.List.{List, [], ◌∷◌, ◌++◌, append_assoc, append-nil}
use mathlib.Core.Logic.{⊎_elim}
use Prim.Native.Nat.{ℕ, suc}
use lib.ListN.{drop}
use Rattle.octets.proofs.Every.{either}
use Rattle.cell_permit.specs.CellPermit.{line_end}
use Rattle.file_lines.specs.Lines.{ecs}
use Rattle.mailed_lines.specs.Texts.{joined}
use Rattle.mailed_lines.specs.Mailed.{ends_in_cr, line_of, unblanked, is_ecs, fate_of}
use Rattle.mailed_lines.specs.Saying.{out_said}
use Rattle.mailed_lines.specs.declared.Fate.{Fate}
use Rattle.mailed_lines.specs.declared.Fate.TheVariants.{Kept, Last, Out}
use Rattle.mailed_lines.proofs.Fates.{kept_is, last_is, out_is_lem}
use Rattle.mended_lines.specs.Gives.{faults_of, header_gives, unended_gives}
use Rattle.mending.specs.Mending.{gives_of, mended_from, mended_texts, mended_of}
use Rattle.mending.specs.Unsaid.{Old, ended_old, unended_old, old_from, each, in_file, in_list, after_ecs, added_after, EachLine, Among, Within, NothingUnsaid}
use Rattle.mending.proofs.Again.{for-headed}

-- what each old line is in the old file
abbrev as_it_stood : Old → List ℕ
as_it_stood o = o.text

-- the three equations, for a count and texts
abbrev Stands : ℕ → List (List ℕ) → Type 0
Stands count texts = each as_it_stood (old_from count texts) ++ after_ecs texts ≡ joined texts

abbrev Files : ℕ → List (List ℕ) → Type 0
Files count texts = (mended_from count texts).file ≡ each in_file (old_from count texts) ++ (after_ecs texts ++ (added_after count texts).file)

abbrev Lists : ℕ → List (List ℕ) → Type 0
Lists count texts = (mended_from count texts).list ≡ each in_list (old_from count texts) ++ (added_after count texts).list

module _ (count : ℕ) (text next : List ℕ) (rest : List (List ℕ)) where
  stands_by : Stands (suc count) (next ∷ rest) → (f : Fate) → fate_of (unblanked (line_of text)) ≡ f → Stands count (text ∷ next ∷ rest)
  unfolding old_from ended_old each after_ecs joined
  stands_by later Kept kept =
      rw (kept, (kept_is (unblanked (line_of text)) kept).1)
      (append_assoc (text ++ (10 ∷ [])) (each as_it_stood (old_from (suc count) (next ∷ rest))) (after_ecs (next ∷ rest))
      ∙ append_assoc text (10 ∷ []) _
      ∙ ap (λ (l : List ℕ). text ++ (10 ∷ l)) later)
  stands_by later Last last =
      rw (last, last_is (unblanked (line_of text)) last)
      (append_assoc (text ++ (10 ∷ [])) [] (joined (next ∷ rest)) ∙ append_assoc text (10 ∷ []) (joined (next ∷ rest)))
  stands_by later Out out =
      rw (out, (out_is_lem (unblanked (line_of text)) out).0)
      (append_assoc (text ++ (10 ∷ [])) (each as_it_stood (old_from (suc count) (next ∷ rest))) (after_ecs (next ∷ rest))
      ∙ append_assoc text (10 ∷ []) _
      ∙ ap (λ (l : List ℕ). text ++ (10 ∷ l)) later)

  files_by : Files (suc count) (next ∷ rest) → (f : Fate) → fate_of (unblanked (line_of text)) ≡ f → Files count (text ∷ next ∷ rest)
  unfolding mended_from gives_of old_from ended_old each after_ecs added_after
  files_by later Kept kept =
      rw (kept, (kept_is (unblanked (line_of text)) kept).1)
      (ap (λ (l : List ℕ). (unblanked (line_of text) ++ line_end) ++ l) later
      ∙ sym (append_assoc (unblanked (line_of text) ++ line_end) (each in_file (old_from (suc count) (next ∷ rest))) _))
  files_by later Last last =
      rw (last, last_is (unblanked (line_of text)) last)
      (ap (λ (l : List ℕ). (ecs ++ line_end) ++ l) (sym (append-nil (joined (next ∷ rest)))))
  files_by later Out out = rw (out, (out_is_lem (unblanked (line_of text)) out).0) later

  -- what is said of the line, kept as it comes to
  abbrev faults : List ℕ → List ℕ
  faults mended = faults_of (not (ends_in_cr text)) count (line_of text) mended

  lists_by : Lists (suc count) (next ∷ rest) → (f : Fate) → fate_of (unblanked (line_of text)) ≡ f → Lists count (text ∷ next ∷ rest)
  unfolding mended_from gives_of old_from ended_old each added_after
  lists_by later Kept kept =
      rw (kept, (kept_is (unblanked (line_of text)) kept).1)
      (ap (λ (l : List ℕ). faults (unblanked (line_of text)) ++ l) later
      ∙ sym (append_assoc (faults (unblanked (line_of text))) (each in_list (old_from (suc count) (next ∷ rest))) (added_after (suc count) (next ∷ rest)).list))
  lists_by later Last last =
      rw (last, last_is (unblanked (line_of text)) last, append-nil (faults ecs), append-nil (faults ecs))
  lists_by later Out out =
      rw (out, (out_is_lem (unblanked (line_of text)) out).0)
      (ap (λ (l : List ℕ). out_said count (line_of text) ++ l) later ∙ sym (append_assoc (out_said count (line_of text)) (each in_list (old_from (suc count) (next ∷ rest))) (added_after (suc count) (next ∷ rest)).list))

stands : (count : ℕ) (texts : List (List ℕ)) → Stands count texts
unfolding old_from unended_old each after_ecs joined
stands count [] = refl
stands count ([] ∷ []) = refl
stands count ((c ∷ line) ∷ []) = rw (append-nil line, append-nil line)
stands count (text ∷ next ∷ rest) = stands_by count text next rest (stands (suc count) (next ∷ rest)) (fate_of (unblanked (line_of text))) refl

files : (count : ℕ) (texts : List (List ℕ)) → Files count texts
unfolding mended_from gives_of unended_gives old_from unended_old each after_ecs added_after
files count [] = refl
files count ([] ∷ []) = refl
files count ((c ∷ line) ∷ []) =
    either (is_ecs (unblanked (c ∷ line))) (λ is. rw is refl) (λ other. rw other refl)
files count (text ∷ next ∷ rest) = files_by count text next rest (files (suc count) (next ∷ rest)) (fate_of (unblanked (line_of text))) refl

lists : (count : ℕ) (texts : List (List ℕ)) → Lists count texts
unfolding mended_from gives_of unended_gives old_from unended_old each added_after
lists count [] = refl
lists count ([] ∷ []) = refl
lists count ((c ∷ line) ∷ []) =
    either (is_ecs (unblanked (c ∷ line)))
    (λ is. rw (is, append-nil (faults_of false count (c ∷ line) ecs), append-nil (faults_of false count (c ∷ line) ecs)))
    (λ other. rw (other, append-nil (out_said count (c ∷ line))) refl)
lists count (text ∷ next ∷ rest) = lists_by count text next rest (lists (suc count) (next ∷ rest)) (fate_of (unblanked (line_of text))) refl

pub each_line : EachLine
each_line count texts = (stands count texts, (files count texts, lists count texts))

-- what one of the old lines gives stands in what all give
each_among : (f : Old → List ℕ) (o : Old) (olds : List Old) → Among o olds → Within (f o) (each f olds)
unfolding each
each_among f o [] among = absurd among
each_among f o (p ∷ olds) among =
    ⊎_elim
    (λ same. record { before = []; after = each f olds; whole = ap (λ (x : Old). f x ++ each f olds) (sym same) })
    (λ later.
    let there = each_among f o olds later in
    record {
      before = f p ++ there.before;
      after = there.after;
      whole = ap (λ (l : List ℕ). f p ++ l) there.whole ∙ sym (append_assoc (f p) there.before (f o ++ there.after));
    })
    among

-- and in a text that has it, with more before it
module _ (what : List ℕ) where
  with_before : (a text : List ℕ) → Within what text → Within what (a ++ text)
  with_before a text there =
      record {
        before = a ++ there.before;
        after = there.after;
        whole = ap (λ (l : List ℕ). a ++ l) there.whole ∙ sym (append_assoc a there.before (what ++ there.after));
      }

  -- or after it
  with_after : (text b : List ℕ) → Within what text → Within what (text ++ b)
  with_after text b there =
      record {
        before = there.before;
        after = there.after ++ b;
        whole = ap (λ (l : List ℕ). l ++ b) there.whole
            ∙ append_assoc there.before (what ++ there.after) b
            ∙ ap (λ (l : List ℕ). there.before ++ l) (append_assoc what there.after b);
      }

module _ (one two three next : List ℕ) (rest : List (List ℕ)) (o : Old) (among : Among o (old_from 4 (next ∷ rest))) where
  in_list_lem : Within (in_list o) (mended_texts (one ∷ two ∷ three ∷ next ∷ rest)).list
  unfolding mended_texts header_gives
  in_list_lem =
      with_before (in_list o) (header_gives 1 one).list _
      (with_before (in_list o) (header_gives 2 two).list _
      (with_before (in_list o) (header_gives 3 three).list _
      (subst (Within (in_list o)) (sym (lists 4 (next ∷ rest)))
      (with_after (in_list o) (each in_list (old_from 4 (next ∷ rest))) (added_after 4 (next ∷ rest)).list
      (each_among in_list o (old_from 4 (next ∷ rest)) among)))))

  in_file_lem : Within (in_file o) (mended_texts (one ∷ two ∷ three ∷ next ∷ rest)).file
  unfolding mended_texts header_gives
  in_file_lem =
      with_before (in_file o) (header_gives 1 one).file _
      (with_before (in_file o) (header_gives 2 two).file _
      (with_before (in_file o) (header_gives 3 three).file _
      (subst (Within (in_file o)) (sym (files 4 (next ∷ rest)))
      (with_after (in_file o) (each in_file (old_from 4 (next ∷ rest))) (after_ecs (next ∷ rest) ++ (added_after 4 (next ∷ rest)).file)
      (each_among in_file o (old_from 4 (next ∷ rest)) among)))))

-- it is left out, or kept
module _ (o : Old) (text : List ℕ) where
  said_out : Within (in_list o) text → o.kept ≡ false → Within (out_said o.count o.line) text
  said_out there out = rw out at there

  stands_kept : Within (in_file o) text → o.kept ≡ true → Within o.mended text
  stands_kept there kept = rw kept at there

pub nothing_unsaid : NothingUnsaid
unfolding mended_of
nothing_unsaid file good o =
    for-headed file good
    (λ (texts : List (List ℕ)).
    Among o (old_from 4 (drop 3 texts))
    → (o.kept ≡ false → Within (out_said o.count o.line) (mended_texts texts).list) × (o.kept ≡ true → Within o.mended (mended_texts texts).file))
    (λ one two three next rest none head among. (
      said_out o (mended_texts (one ∷ two ∷ three ∷ next ∷ rest)).list (in_list_lem one two three next rest o among),
      stands_kept o (mended_texts (one ∷ two ∷ three ∷ next ∷ rest)).file (in_file_lem one two three next rest o among),
    ))
