-- A good header at a mended file's start: its three lines are the first three lines mended, 40 bytes with their CR LFs, and the rest follows them.
-- Assumes nothing.
use mathlib.Core.Path.{◌≡◌, refl, sym, ap, ap₂, ◌∙◌}
use mathlib.Core.Bool.{true}
use mathlib.Core.List.{List, [], ◌∷◌, ◌++◌, append_assoc}
use Prim.Native.Nat.{ℕ, ◌+◌, ◌≤◌}
use native.Mathlib.Omega.{arith}
use borrow.Author.Tests.{eqb-true}
use lib.Dec.{eqb, ltb}
use lib.ListN.{length, get_or, take, drop, length-append, take-append-drop}
use lib.Seq.{drop-cons, drop-drop, length-take-le}
use Rattle.octets.specs.Every.{all_of}
use Rattle.octets.proofs.Every.{and_first, and_second, either, all_weaken}
use Rattle.text.specs.Ascii.{ascii}
use Rattle.text.specs.Characters.{is_digit, decimal_number}
use Rattle.text.specs.Texts.{part, all_at, stands_at}
use Rattle.text.proofs.Notations.{between_low}
use Rattle.text.proofs.SameTexts.{same_true}
use Rattle.text.proofs.TextsAt.{all_there, all_within, all_at_place, all_join, all_append}
use Rattle.forms.specs.DateText.{is_date_at}
use Rattle.forms.proofs.DateTexts.{date_tests}
use Rattle.file_lines.specs.Dated.{date_mark, is_below, is_dated}
use Rattle.file_lines.proofs.DatedFiles.{to_start, to_date, to_blank, to_hour, to_colon}
use Rattle.permit_file.specs.File.{header_rest, is_header}
use Rattle.permit_file.proofs.Headers.{header_within}
use Rattle.mailed_lines.specs.Texts.{texts_of, joined}
use Rattle.mailed_lines.proofs.CutTexts.{not_lf, AllWithout, first_of, rest_of, text_before, joined_texts}
use Rattle.mending.specs.Mending.{mended_from, mended_texts}
use Rattle.mending.proofs.Again.{header_line, header-texts}

-- a digit is no LF
digit_no_lf : (c : ℕ) → is_digit c ≡ true → not_lf c ≡ true
unfolding is_digit
digit_no_lf c digit = either (eqb c 10) (λ is. absurd (omega (arith, eqb-true c 10 is, between_low 48 57 c digit))) (λ other. rw other)

module _ (s : List ℕ) where
  digits_no_lf : (n at : ℕ) → all_at is_digit n s at ≡ true → all_at not_lf n s at ≡ true
  digits_no_lf n at all =
      all_at_place not_lf n s at (all_within is_digit n s at all) (all_weaken is_digit not_lf digit_no_lf (part n s at) (all_there is_digit n s at all))

  one_no_lf : (at c : ℕ) → at + 1 ≤ length s → get_or s at 0 ≡ c → not_lf c ≡ true → all_at not_lf 1 s at ≡ true
  unfolding all_of
  one_no_lf at c h is none =
      all_at_place not_lf 1 s at h (ap (λ (l : List ℕ). all_of not_lf (take 1 l)) (drop-cons s at 0 (omega arith)) ∙ rw (is, none))

  below_digits : (limit at : ℕ) → is_below limit s at ≡ true → all_at is_digit 2 s at ≡ true
  unfolding is_below
  below_digits limit at below = and_first (all_at is_digit 2 s at) (ltb (decimal_number (part 2 s at)) limit) below

  -- the date and time have no LF
  module _ (long : 40 ≤ length s) where
    mark-no-lf : stands_at date_mark s 0 ≡ true → all_at not_lf 6 s 0 ≡ true
    unfolding all_of
    mark-no-lf there = all_at_place not_lf 6 s 0 (omega arith) (ap (all_of not_lf) (same_true (part 6 s 0) date_mark there))

    date-no-lf : is_dated s ≡ true → all_at not_lf 20 s 0 ≡ true
    unfolding is_dated
    date-no-lf dated =
        let to-colon = and_first (to_colon s) (is_below 60 s 18) dated in
        let to-hour = and_first (to_hour s) (eqb (get_or s 17 0) 58) to-colon in
        let to-blank = and_first (to_blank s) (is_below 24 s 15) to-hour in
        let to-date = and_first (to_date s) (eqb (get_or s 14 0) 32) to-blank in
        let mark = and_first (to_start s) (is_date_at s 6) to-date in
        let date = (date_tests s 6 (and_second (to_start s) (is_date_at s 6) to-date)).0 in
        let blank = eqb-true (get_or s 14 0) 32 (and_second (to_date s) (eqb (get_or s 14 0) 32) to-blank) in
        let hour = below_digits 24 15 (and_second (to_blank s) (is_below 24 s 15) to-hour) in
        let colon = eqb-true (get_or s 17 0) 58 (and_second (to_hour s) (eqb (get_or s 17 0) 58) to-colon) in
        let minute = below_digits 60 18 (and_second (to_colon s) (is_below 60 s 18) dated) in
        all_join not_lf 18 2 s 0
        (all_join not_lf 17 1 s 0
        (all_join not_lf 15 2 s 0
        (all_join not_lf 14 1 s 0
        (all_join not_lf 6 8 s 0 (mark-no-lf mark) (digits_no_lf 8 6 date))
        (one_no_lf 14 32 (omega arith) blank refl))
        (digits_no_lf 2 15 hour))
        (one_no_lf 17 58 (omega arith) colon refl))
        (digits_no_lf 2 18 minute)

  -- a header's three texts, and those after it
  module _ (good : is_header s ≡ true) where
    long : 40 ≤ length s
    long = header_within s good

    abbrev date : List ℕ
    date = take 20 s

    date-without : all_of not_lf date ≡ true
    unfolding is_header
    date-without = all_there not_lf 20 s 0 (date-no-lf long (and_first (is_dated s) (stands_at header_rest s 20) good))

    whole : s ≡ (date ++ (13 ∷ [])) ++ (10 ∷ (ascii ":VERSION 2\r" ++ (10 ∷ (ascii ":ENC\r" ++ (10 ∷ drop 40 s)))))
    unfolding is_header
    whole =
        let rest : part 20 s 20 ≡ header_rest = same_true (part 20 s 20) header_rest (and_second (is_dated s) (stands_at header_rest s 20) good) in
        sym (take-append-drop 20 s)
        ∙ ap (λ (l : List ℕ). date ++ l)
        (sym (take-append-drop 20 (drop 20 s)) ∙ ap₂ (λ (a b : List ℕ). a ++ b) rest (drop-drop 20 20 s))
        ∙ sym (append_assoc date (13 ∷ []) _)

    pub good-texts : texts_of s ≡ (date ++ (13 ∷ [])) ∷ ascii ":VERSION 2\r" ∷ ascii ":ENC\r" ∷ texts_of (drop 40 s)
    unfolding all_of
    good-texts =
        ap texts_of whole
        ∙ text_before (date ++ (13 ∷ [])) _ (all_append not_lf date (13 ∷ []) ∙ rw date-without)
        ∙ ap (λ (l : List (List ℕ)). (date ++ (13 ∷ [])) ∷ l)
        (text_before (ascii ":VERSION 2\r") _ refl
        ∙ ap (λ (l : List (List ℕ)). ascii ":VERSION 2\r" ∷ l) (text_before (ascii ":ENC\r") (drop 40 s) refl))

    pub date-length : length date ≡ 20
    date-length = length-take-le 20 s (omega (arith, long))

-- a mended file with a good header
module _ (one two three next : List ℕ) (rest : List (List ℕ)) (none : AllWithout (one ∷ two ∷ three ∷ next ∷ rest))
    (good : is_header (mended_texts (one ∷ two ∷ three ∷ next ∷ rest)).file ≡ true) where
  abbrev file : List ℕ
  file = (mended_texts (one ∷ two ∷ three ∷ next ∷ rest)).file

  same_cut : (header_line one ++ (13 ∷ [])) ∷ (header_line two ++ (13 ∷ [])) ∷ (header_line three ++ (13 ∷ [])) ∷ texts_of (mended_from 4 (next ∷ rest)).file
      ≡ (date file good ++ (13 ∷ [])) ∷ ascii ":VERSION 2\r" ∷ ascii ":ENC\r" ∷ texts_of (drop 40 file)
  same_cut = sym (header-texts one two three next rest none) ∙ good-texts file good

  -- its first three lines are as long as they are in every header
  pub header_sizes : (length (header_line one) ≡ 20) × ((length (header_line two) ≡ 10) × (length (header_line three) ≡ 4))
  header_sizes =
      let first = ap length (ap first_of same_cut) in
      let second = ap length (ap (λ (l : List (List ℕ)). first_of (rest_of l)) same_cut) in
      let third = ap length (ap (λ (l : List (List ℕ)). first_of (rest_of (rest_of l))) same_cut) in (
        omega (arith, first, length-append (header_line one) (13 ∷ []), length-append (date file good) (13 ∷ []), date-length file good),
        (omega (arith, second, length-append (header_line two) (13 ∷ [])), omega (arith, third, length-append (header_line three) (13 ∷ []))),
      )

  -- and what follows them stands behind the header
  pub after_header_lem : drop 40 file ≡ (mended_from 4 (next ∷ rest)).file
  after_header_lem =
      sym (joined_texts (drop 40 file))
      ∙ ap joined (sym (ap (λ (l : List (List ℕ)). rest_of (rest_of (rest_of l))) same_cut))
      ∙ joined_texts (mended_from 4 (next ∷ rest)).file
