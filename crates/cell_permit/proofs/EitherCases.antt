-- The case of letters does not matter: what is read of a line's cipher parts goes by their text with letters raised, and all else stands outside them.
-- Assumes nothing.
use mathlib.Core.Path.{◌≡◌, sym, ap, ap₂, ◌∙◌}
use mathlib.Core.Bool.{Bool}
use mathlib.Core.List.{List, ◌++◌, map-append}
use Prim.Native.Nat.{ℕ, ◌+◌, ◌-◌, ◌≤◌}
use native.Mathlib.Nat.{add-zero}
use native.Mathlib.Omega.{arith}
use lib.ListN.{length, get_or, take, drop, length-append, take-append-drop}
use lib.Seq.{drop-drop, get_or-drop}
use Rattle.octets.specs.Places.{number_at}
use Rattle.text.specs.Characters.{raised, raised_text, is_digit, is_hex, is_name_character, hex_number}
use Rattle.text.specs.Texts.{part, all_at}
use Rattle.text.proofs.Raising.{same_hex, same_number, same_part, same_length}
use Rattle.text.proofs.TextsAt.{part_join, part_of_part, same_within}
use Rattle.forms.specs.DateText.{is_date_at}
use Rattle.forms.specs.Identifiers.{raised_hw_id}
use Rattle.forms.proofs.HwIds.{same_form}
use Rattle.cell_permit.specs.CellPermit.{ship_words, written_line}
use Rattle.cell_permit.specs.Line.{is_permit, edition_length, is_tail, is_line, permit_parts, field_parts, parts_of, comment_of, comment_at, comment_start, checked, read_with, given_answer, read_line}
use Rattle.cell_permit.specs.EitherCase.{CaseAlone, ShipEitherCase, ReadEitherCase, LineEitherCase, CommentEitherCase, WrittenEitherCase}

-- a line is its first 16 bytes, the next 48 and the rest
in_three : (s : List ℕ) → take 16 s ++ (part 48 s 16 ++ drop 64 s) ≡ s
in_three s =
    ap (λ (l : List ℕ). take 16 s ++ (part 48 s 16 ++ l)) (sym (drop-drop 48 16 s))
    ∙ ap (λ (l : List ℕ). take 16 s ++ l) (take-append-drop 48 (drop 16 s))
    ∙ take-append-drop 16 s

size_in_three : (s : List ℕ) → length s ≡ length (take 16 s) + (length (part 48 s 16) + length (drop 64 s))
size_in_three s = sym (ap length (in_three s)) ∙ simp length-append

module _ (s t : List ℕ) (alone : CaseAlone s t) where
  pub one_size : length s ≡ length t
  one_size =
      rw (size_in_three s, size_in_three t, alone.start, same_length (part 48 s 16) (part 48 t 16) alone.cipher, alone.rest)

  -- within the first 16 bytes
  early : (n at : ℕ) → at + n ≤ 16 → part n s at ≡ part n t at
  early = same_within 16 s t alone.start

  early_all : (test : ℕ → Bool) (n at : ℕ) → at + n ≤ 16 → all_at test n s at ≡ all_at test n t at
  unfolding all_at
  early_all test n at h = rw (one_size, early n at h)

  -- among the next 48
  ciphered : (n k : ℕ) → k + n ≤ 48 → raised_text (part n s (16 + k)) ≡ raised_text (part n t (16 + k))
  ciphered n k h =
      ap raised_text (sym (part_of_part n 48 s 16 k h))
      ∙ same_part (part 48 s 16) (part 48 t 16) alone.cipher n k
      ∙ ap raised_text (part_of_part n 48 t 16 k h)

  -- after them
  late : (k : ℕ) → 64 ≤ k → drop k s ≡ drop k t
  late k h =
      let place : 64 + (k - 64) ≡ k = omega arith in
      ap (λ (n : ℕ). drop n s) (sym place)
      ∙ sym (drop-drop (k - 64) 64 s) ∙ ap (drop (k - 64)) alone.rest ∙ drop-drop (k - 64) 64 t
      ∙ ap (λ (n : ℕ). drop n t) place

  late_byte : (k : ℕ) → 64 ≤ k → get_or s k 0 ≡ get_or t k 0
  late_byte k h =
      rw add-zero at (sym (get_or-drop k s 0 0) ∙ ap (λ (l : List ℕ). get_or l 0 0) (late k h) ∙ get_or-drop k t 0 0)

  edition : edition_length s ≡ edition_length t
  edition = rw (late 67 (omega arith))

  hex_same : (k : ℕ) → k + 16 ≤ 48 → all_at is_hex 16 s (16 + k) ≡ all_at is_hex 16 t (16 + k)
  unfolding all_at
  hex_same k h = rw (one_size, same_hex (part 16 s (16 + k)) (part 16 t (16 + k)) (ciphered 16 k h))

  number_same : (k : ℕ) → k + 16 ≤ 48 → hex_number (part 16 s (16 + k)) ≡ hex_number (part 16 t (16 + k))
  number_same k h = same_number (part 16 s (16 + k)) (part 16 t (16 + k)) (ciphered 16 k h)

  permit_same : is_permit s ≡ is_permit t
  unfolding is_permit is_date_at
  permit_same =
      rw (
        early_all is_name_character 8 0 (omega arith),
        early_all is_digit 8 8 (omega arith),
        early 8 8 (omega arith),
        hex_same 0 (omega arith),
        hex_same 16 (omega arith),
        hex_same 32 (omega arith),
      )

  tail_same : is_tail s ≡ is_tail t
  unfolding is_tail all_at
  tail_same =
      let n = edition_length t in
      rw (
        edition,
        one_size,
        late_byte 64 (omega arith),
        late_byte 65 (omega arith),
        late_byte 66 (omega arith),
        late_byte 67 (omega arith),
        late_byte (67 + n) (omega arith),
        late (68 + n) (omega arith),
        late_byte (70 + n) (omega arith),
        late (71 + n) (omega arith),
      )

  line_same : is_line s ≡ is_line t
  unfolding is_line
  line_same = rw (one_size, permit_same, tail_same)

  parts_same : parts_of s ≡ parts_of t
  unfolding parts_of permit_parts field_parts number_at
  parts_same =
      let n = edition_length t in
      rw (
        edition,
        one_size,
        early 8 0 (omega arith),
        early 8 8 (omega arith),
        number_same 0 (omega arith),
        number_same 16 (omega arith),
        number_same 32 (omega arith),
        late_byte 65 (omega arith),
        late 67 (omega arith),
        late (68 + n) (omega arith),
      )

  unchecked_same : raised_text (part 48 s 0) ≡ raised_text (part 48 t 0)
  unchecked_same =
      ap raised_text (part_join 16 32 s 0) ∙ map-append raised (part 16 s 0) (part 32 s 16)
      ∙ ap₂ (λ (a b : List ℕ). a ++ b) (ap raised_text alone.start) (ciphered 32 0 (omega arith))
      ∙ sym (ap raised_text (part_join 16 32 t 0) ∙ map-append raised (part 16 t 0) (part 32 t 16))

pub read_either_case : ReadEitherCase
unfolding read_with checked
read_either_case words today days s t alone = rw (line_same s t alone, parts_same s t alone, unchecked_same s t alone)

given_same : (hw k today days : ℕ) → raised_hw_id hw ≡ raised_hw_id k → given_answer hw today days ≡ given_answer k today days
unfolding given_answer
given_same hw k today days same = rw (same_form hw k same)

pub ship_either_case : ShipEitherCase
unfolding ship_words
ship_either_case hw k same = (rw same, λ today days. rw (given_same hw k today days same))

pub line_either_case : LineEitherCase
unfolding read_line
line_either_case hw k today days s t same alone =
    let ship = ship_either_case hw k same in
    rw (ship.0, given_same hw k today days same, read_either_case (ship_words k) today days s t alone)

pub comment_either_case : CommentEitherCase
unfolding comment_of comment_at comment_start
comment_either_case s t alone =
    let n = edition_length t in (
      rw (line_same s t alone, edition s t alone, late s t alone (71 + n) (omega arith)),
      (rw (line_same s t alone, edition s t alone), rw (line_same s t alone, edition s t alone)),
    )

pub written_either_case : WrittenEitherCase
unfolding written_line
written_either_case hw k room cell same = rw (same_form hw k same, (ship_either_case hw k same).0)
