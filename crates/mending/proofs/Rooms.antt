-- How long a mended file and its list are at most, line by line and as a whole.
-- Assumes nothing.
use Rattle.std.specs.Prelude.{Option, Some, None}
use Rattle.mending.specs.declared.header.Ends.{Ends}
use mathlib.Core.Path.{◌≡◌, refl, sym, ap, ◌∙◌}
use mathlib.Core.Bool.{true, false, not}
use mathlib.Core.List.{List, [], ◌∷◌, ◌++◌}
use Prim.Native.Nat.{ℕ, suc, ◌+◌, ◌-◌, ◌*◌, ◌/◌, ◌≤◌, ◌<◌}
use native.Mathlib.Omega.{arith}
use borrow.Author.Tests.{leb-true}
use lib.Dec.{leb}
use lib.ListN.{length, drop, length-append, length-drop}
use Rattle.octets.proofs.Every.{either, never_both}
use Rattle.text.specs.Ascii.{ascii}
use Rattle.text.specs.Texts.{width, same_text}
use Rattle.text.proofs.Numerals.{width-at-most}
use Rattle.cell_permit.specs.CellPermit.{line_end}
use Rattle.file_lines.specs.Lines.{ecs}
use Rattle.line_shape.proofs.Shapes.{shortest_line}
use Rattle.mailed_lines.specs.Texts.{texts_of, joined}
use Rattle.mailed_lines.specs.Mailed.{ends_in_cr, line_of, unblanked, is_ecs, fate_of}
use Rattle.mailed_lines.specs.Saying.{said, out_said}
use Rattle.mailed_lines.specs.declared.Fate.{Fate}
use Rattle.mailed_lines.specs.declared.Fate.TheVariants.{Kept, Last, Out}
use Rattle.mailed_lines.proofs.CutTexts.{first_of, rest_of, never_empty, joined_texts}
use Rattle.mailed_lines.proofs.Fates.{kept_is, last_is, line-long, ecs_size}
use Rattle.mailed_lines.proofs.Lines.{line_short, unblanked_short}
use Rattle.mailed_lines.proofs.SaidTexts.{said-length, out_length, faults_length}
use Rattle.mended_lines.specs.Gives.{faults_of, unended_gives}
use Rattle.mending.specs.Mending.{gives_of, mended_from, mended_of, is_mended}
use Rattle.mending.specs.Program.{printed}
use Rattle.mending.specs.Enough.{FileRoom, ListRoom, RoomEnough}
use Rattle.mending.specs.Walking.{header_ends, header_of, later_of}
use Rattle.mending.proofs.HeaderTexts.{header_list, fewer, ends_rise, header_and_later, good-size, good-place}

-- the bytes of texts, one and more of which follow it
joined_length : (text next : List ℕ) (rest : List (List ℕ)) → length (joined (text ∷ next ∷ rest)) ≡ length text + (1 + length (joined (next ∷ rest)))
unfolding joined
joined_length text next rest = length-append text (10 ∷ joined (next ∷ rest)) ∙ omega arith

module _ (count : ℕ) (text next : List ℕ) (rest : List (List ℕ)) where
  abbrev line : List ℕ
  line = unblanked (line_of text)

  line_least : length line ≤ length text
  line_least = omega (arith, unblanked_short (line_of text), line_short text)

  -- a mended file: a line that is kept has 71 bytes at least, and gains one
  file-by
      : 72 * length (mended_from (suc count) (next ∷ rest)).file ≤ 73 * length (joined (next ∷ rest)) + 432
      → (f : Fate) → fate_of line ≡ f
      → 72 * length (mended_from count (text ∷ next ∷ rest)).file ≤ 73 * length (joined (text ∷ next ∷ rest)) + 432
  unfolding mended_from gives_of
  file-by later Kept kept =
      rw kept
      (omega (
        arith,
        later,
        joined_length text next rest,
        length-append (line ++ line_end) (mended_from (suc count) (next ∷ rest)).file,
        length-append line line_end,
        line_least,
        shortest_line line (kept_is line kept).0,
      ))
  file-by later Last last = rw last (omega (arith, joined_length text next rest, length-append (ecs ++ line_end) (joined (next ∷ rest))))
  file-by later Out out = rw out (omega (arith, later, joined_length text next rest))

  -- the list, where a count has five digits at most
  module _ (short : width count ≤ 5) where
    list_by
        : length (mended_from (suc count) (next ∷ rest)).list ≤ 11 * length (joined (next ∷ rest)) + 11
        → (f : Fate) → fate_of line ≡ f
        → length (mended_from count (text ∷ next ∷ rest)).list ≤ 11 * length (joined (text ∷ next ∷ rest)) + 11
    unfolding mended_from gives_of
    list_by later Kept kept =
        rw kept
        (omega (
          arith,
          later,
          short,
          joined_length text next rest,
          length-append (faults_of (not (ends_in_cr text)) count (line_of text) line) (mended_from (suc count) (next ∷ rest)).list,
          faults_length (not (ends_in_cr text)) (not (same_text line (line_of text))) (not (same_text line line)) count,
          line_least,
          line-long line (kept_is line kept).0,
        ))
    list_by later Last last =
        rw last
        (omega (
          arith,
          short,
          joined_length text next rest,
          faults_length (not (ends_in_cr text)) (not (same_text line (line_of text))) (not (same_text ecs line)) count,
          line_least,
          ecs_size line (last_is line last),
        ))
    list_by later Out out =
        rw out
        (omega (
          arith,
          later,
          short,
          joined_length text next rest,
          length-append (out_said count (line_of text)) (mended_from (suc count) (next ∷ rest)).list,
          out_length count (line_of text),
          line_short text,
        ))

texts_file : (count : ℕ) (text : List ℕ) (rest : List (List ℕ)) → 72 * length (mended_from count (text ∷ rest)).file ≤ 73 * length (joined (text ∷ rest)) + 432
unfolding mended_from gives_of unended_gives
texts_file count [] [] = omega arith
texts_file count (c ∷ line) [] = either (is_ecs (unblanked (c ∷ line))) (λ is. rw is (omega arith)) (λ other. rw other (omega arith))
texts_file count text (next ∷ rest) = file-by count text next rest (texts_file (suc count) next rest) (fate_of (unblanked (line_of text))) refl

five_digits : (n : ℕ) → n < 100000 → width n ≤ 5
five_digits n small = width-at-most n 5 (omega arith) (omega arith)

texts_list : (count : ℕ) (text : List ℕ) (rest : List (List ℕ)) → count + length (joined (text ∷ rest)) < 99999
    → length (mended_from count (text ∷ rest)).list ≤ 11 * length (joined (text ∷ rest)) + 11
unfolding mended_from gives_of unended_gives joined
texts_list count [] [] small = omega (arith, said-length count (ascii "ECS"), five_digits count (omega arith))
texts_list count (c ∷ line) [] small =
    either (is_ecs (unblanked (c ∷ line)))
    (λ is.
    rw is
    (omega (
      arith,
      faults_length false (not (same_text (unblanked (c ∷ line)) (c ∷ line))) (not (same_text ecs (unblanked (c ∷ line)))) count,
      five_digits count (omega arith),
      unblanked_short (c ∷ line),
      ecs_size (unblanked (c ∷ line)) is,
    )))
    (λ other.
    rw other
    (omega (
      arith,
      length-append (out_said count (c ∷ line)) (said (suc count) (ascii "ECS")),
      out_length count (c ∷ line),
      said-length (suc count) (ascii "ECS"),
      five_digits count (omega arith),
      five_digits (suc count) (omega arith),
    )))
texts_list count text (next ∷ rest) small =
    let size = joined_length text next rest in
    list_by count text next rest (five_digits count (omega arith)) (texts_list (suc count) next rest (omega (arith, size))) (fate_of (unblanked (line_of text))) refl

-- the texts from a place on
module _ (file : List ℕ) (place : ℕ) (within : place ≤ length file) where
  left_length : length (joined (texts_of (drop place file))) ≡ length file - place
  left_length = ap length (joined_texts (drop place file)) ∙ length-drop place file

  later_file : 72 * length (later_of file place).file ≤ 73 * (length file - place) + 432
  unfolding later_of
  later_file =
      let all = texts_file 4 (first_of (texts_of (drop place file))) (rest_of (texts_of (drop place file))) in
      rw (← never_empty (drop place file), left_length) at all

  later_list : 37 ≤ place → length file ≤ 100000 → length (later_of file place).list ≤ 11 * (length file - place) + 11
  unfolding later_of
  later_list behind small =
      let cut = never_empty (drop place file) in
      let few : 4 + length (joined (first_of (texts_of (drop place file)) ∷ rest_of (texts_of (drop place file)))) < 99999 =
      omega (arith, ap (λ (l : List (List ℕ)). length (joined l)) (sym cut) ∙ left_length) in
      let all = texts_list 4 (first_of (texts_of (drop place file))) (rest_of (texts_of (drop place file))) few in
      rw (← cut, left_length) at all

module _ (file : List ℕ) (good : is_mended file ≡ true) where
  file_by_header : (h : Option Ends) → header_ends file ≡ h → length (mended_of file).file ≤ length file + length file / 72 + 9
  file_by_header (Some e) made =
      omega (
        arith,
        ap length (header_and_later file e made).0 ∙ length-append (header_of file e).file (later_of file (e.third + 1)).file,
        good-size file e made good,
        good-place file e made good,
        ends_rise file e made,
        later_file file (e.third + 1) (ends_rise file e made).1.1,
      )
  file_by_header None made = absurd (never_both (is_mended file) (fewer file made) good)

  list_by_header : length file ≤ 100000 → (h : Option Ends) → header_ends file ≡ h → length (mended_of file).list ≤ 11 * length file
  list_by_header small (Some e) made =
      omega (
        arith,
        ap length (header_and_later file e made).1 ∙ length-append (header_of file e).list (later_of file (e.third + 1)).list,
        header_list file e,
        good-place file e made good,
        ends_rise file e made,
        later_list file (e.third + 1) (ends_rise file e made).1.1 (good-place file e made good) small,
      )
  list_by_header small None made = absurd (never_both (is_mended file) (fewer file made) good)

pub file_room_lem : FileRoom
file_room_lem file good = file_by_header file good (header_ends file) refl

pub list_room_lem : ListRoom
list_room_lem file good small = list_by_header file good small (header_ends file) refl

pub room_enough : RoomEnough
unfolding printed
room_enough input =
    either (leb (length input) 65536)
    (λ short.
    either (is_mended input)
    (λ good.
    let small = leb-true (length input) 65536 short in
    rw (short, good) (omega (arith, small, file_room_lem input good), omega (arith, small, list_room_lem input good (omega arith))))
    (λ bad. rw (short, bad) (omega arith, omega arith)))
    (λ long. rw long (omega arith, omega arith))
