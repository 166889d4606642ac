-- A record without comment that stands as it should: it has no LF, and gives itself with its CR LF.
-- Assumes nothing.
use Rattle.std.specs.Prelude.{Some}
use mathlib.Core.Path.{◌≡◌, refl, sym, ap, ap₂, ◌∙◌}
use mathlib.Core.Bool.{Bool, true, false}
use mathlib.Core.List.{List, [], ◌∷◌, ◌++◌, append_assoc}
use Prim.Native.Nat.{ℕ, zero, suc, ◌+◌, ◌-◌, ◌≤◌, ◌<◌}
use native.Mathlib.Omega.{arith}
use borrow.Author.Tests.{eqb-true, ne_eqb, leb-true, not-true}
use lib.Dec.{leb, eqb}
use lib.ListN.{length, get_or, take, drop, length-append, length-drop, take-append-drop}
use lib.Seq.{take-length, take-add, drop-cons, drop-drop, get_or-drop, length-take-le, get_or-take}
use Rattle.octets.specs.Every.{all_of}
use Rattle.octets.proofs.Every.{either, never_both, all_weaken, all_first, all_rest}
use Rattle.text.specs.Characters.{is_digit, is_hex, is_upper_hex, is_name_character, is_printable, raised}
use Rattle.text.specs.Texts.{part, all_at}
use Rattle.text.proofs.SameTexts.{same_refl}
use Rattle.text.proofs.TextsAt.{all_append, all_there, all_within, all_at_place, all_join}
use Rattle.forms.proofs.DateTexts.{date_tests}
use Rattle.cell_permit.specs.CellPermit.{comma, line_end}
use Rattle.cell_permit.specs.Line.{comma_at, edition_length, is_line}
use Rattle.cell_permit.proofs.GoodLine.{GoodLine, good_line}
use Rattle.cell_permit.proofs.ReadFields.{comma-within, leading_all, edition_few}
use Rattle.line_shape.specs.Plain.{plain_length}
use Rattle.line_shape.proofs.Shapes.{shortest_line}
use Rattle.file_lines.specs.Texts.{text_length, text_ends}
use Rattle.mailed_lines.specs.Texts.{texts_of}
use Rattle.mailed_lines.specs.Mailed.{unblanked}
use Rattle.mailed_lines.proofs.CutTexts.{not_lf, never_empty, text_before}
use Rattle.mailed_lines.proofs.Fates.{line_kept}
use Rattle.mailed_lines.proofs.Lengths.{unblanked_to}
use Rattle.mailed_lines.proofs.Lines.{line_before_cr, cr_at_end}
use Rattle.mailed_lines.proofs.SaidTexts.{none_said}
use Rattle.mending.specs.Mending.{Mended, gives_of, mended_from}
use Rattle.mending.specs.Walking.{first_gives, gives_at, CleanAt, Cleans}
use Rattle.mending.proofs.TextGives.{mended_turn}

-- a byte that a test lets through is no LF, where the test does not let LF through
module _ (test : ℕ → Bool) (never : test 10 ≡ false) where
  passed_no_lf : (c : ℕ) → test c ≡ true → not_lf c ≡ true
  passed_no_lf c good =
      either (eqb c 10)
      (λ is. absurd (never_both (test c) (ap test (eqb-true c 10 is) ∙ never) good))
      (λ other. rw other)

  at_no_lf : (n : ℕ) (s : List ℕ) (at : ℕ) → all_at test n s at ≡ true → all_at not_lf n s at ≡ true
  at_no_lf n s at all =
      all_at_place not_lf n s at (all_within test n s at all) (all_weaken test not_lf passed_no_lf (part n s at) (all_there test n s at all))

module _ (s : List ℕ) where
  byte_no_lf : (at : ℕ) → at < length s → (get_or s at 0 ≡ 10 → ⊥) → all_at not_lf 1 s at ≡ true
  unfolding all_of
  byte_no_lf at h other =
      all_at_place not_lf 1 s at (omega arith)
      (ap (λ (l : List ℕ). all_of not_lf (take 1 l)) (drop-cons s at 0 h) ∙ rw (ne_eqb (get_or s at 0) 10 other))

  -- two stretches side by side
  stretch : (n m next whole at : ℕ) → next ≡ at + n → whole ≡ n + m → all_at not_lf n s at ≡ true → all_at not_lf m s next ≡ true → all_at not_lf whole s at ≡ true
  stretch n m next whole at is all first second =
      ap (λ (k : ℕ). all_at not_lf k s at) all ∙ all_join not_lf n m s at first (ap (λ (k : ℕ). all_at not_lf m s k) (sym is) ∙ second)

module _ (line : List ℕ) (shaped : is_line line ≡ true) where
  good : GoodLine line
  good = good_line line shaped

  abbrev e : ℕ
  e = edition_length line

  comma_no_lf : (at : ℕ) → comma_at line at ≡ true → all_at not_lf 1 line at ≡ true
  comma_no_lf at here =
      byte_no_lf line at (comma-within line at here) (λ lf. omega (arith, eqb-true (get_or line at 0) comma here, lf))

  permit_no_lf : all_at not_lf 64 line 0 ≡ true
  unfolding is_name_character is_digit is_hex is_upper_hex raised
  permit_no_lf =
      stretch line 48 16 48 64 0 refl refl
      (stretch line 32 16 32 48 0 refl refl
      (stretch line 16 16 16 32 0 refl refl
      (stretch line 8 8 8 16 0 refl refl (at_no_lf is_name_character refl 8 line 0 good.name) (at_no_lf is_digit refl 8 line 8 (date_tests line 8 good.expiry).0))
      (at_no_lf is_hex refl 16 line 16 good.key1))
      (at_no_lf is_hex refl 16 line 32 good.key2))
      (at_no_lf is_hex refl 16 line 48 good.check)

  level_no_lf : all_at not_lf 67 line 0 ≡ true
  level_no_lf =
      let within = comma-within line 66 good.comma2 in
      stretch line 66 1 66 67 0 refl refl
      (stretch line 65 1 65 66 0 refl refl
      (stretch line 64 1 64 65 0 refl refl permit_no_lf (comma_no_lf 64 good.comma1))
      (byte_no_lf line 65 (omega (arith, within)) (λ lf. omega (arith, good.low, lf))))
      (comma_no_lf 66 good.comma2)

  edition_no_lf : all_at not_lf (67 + e) line 0 ≡ true
  unfolding is_digit
  edition_no_lf =
      stretch line 67 e 67 (67 + e) 0 refl refl level_no_lf
      (at_no_lf is_digit refl e line 67
      (all_at_place is_digit e line 67 (omega (arith, comma-within line (67 + e) good.comma3)) (leading_all 3 (drop 67 line))))

  server_no_lf : all_at not_lf (71 + e) line 0 ≡ true
  unfolding is_name_character is_digit
  server_no_lf =
      stretch line (70 + e) 1 (70 + e) (71 + e) 0 (omega arith) (omega arith)
      (stretch line (68 + e) 2 (68 + e) (70 + e) 0 (omega arith) (omega arith)
      (stretch line (67 + e) 1 (67 + e) (68 + e) 0 (omega arith) (omega arith) edition_no_lf (comma_no_lf (67 + e) good.comma3))
      (at_no_lf is_name_character refl 2 line (68 + e) good.server))
      (comma_no_lf (70 + e) good.comma4)

  -- a line has no LF
  pub shaped_no_lf : all_of not_lf line ≡ true
  unfolding is_printable
  shaped_no_lf =
      let within = comma-within line (70 + e) good.comma4 in
      let whole =
      stretch line (71 + e) (length line - (71 + e)) (71 + e) (length line) 0 (omega arith) (omega (arith, within)) server_no_lf
      (at_no_lf is_printable refl (length line - (71 + e)) line (71 + e) good.comment) in
      sym (ap (all_of not_lf) (take-length line)) ∙ all_there not_lf (length line) line 0 whole

-- a mended file and its list, by their parts
abbrev mended : List ℕ → List ℕ → Mended
mended file list = record { file = file; list = list }

-- bytes without LF, before one
text_length_before : (t s : List ℕ) → all_of not_lf t ≡ true → text_length (t ++ (10 ∷ s)) ≡ length t
unfolding text_length
text_length_before [] s none = refl
text_length_before (c ∷ t) s none =
    let other : eqb c 10 ≡ false = not-true (eqb c 10) (all_first not_lf c t none) in
    rw (other, text_length_before t s (all_rest not_lf c t none))

module _ (file : List ℕ) (place r : ℕ) (clean : CleanAt file place r) where
  abbrev n : ℕ
  n = clean.n

  abbrev line : List ℕ
  line = take n (drop place file)

  abbrev rest : List ℕ
  rest = drop (place + n + 2) file

  line_size : length line ≡ n
  line_size = length-take-le n (drop place file) (omega (arith, length-drop place file, clean.within))

  -- it stands there, and its CR LF after it
  ended : drop (place + n) file ≡ 13 ∷ 10 ∷ rest
  ended =
      let one : suc (place + n) ≡ place + n + 1 = omega arith in
      let two : suc (suc (place + n)) ≡ place + n + 2 = omega arith in
      drop-cons file (place + n) 0 (omega (arith, clean.within))
      ∙ ap₂ (λ (c : ℕ) (l : List ℕ). c ∷ l) clean.cr
      (drop-cons file (suc (place + n)) 0 (omega (arith, clean.within))
      ∙ ap₂ (λ (c : ℕ) (l : List ℕ). c ∷ l) (ap (λ (k : ℕ). get_or file k 0) one ∙ clean.lf) (ap (λ (k : ℕ). drop k file) two))

  whole : drop place file ≡ (line ++ (13 ∷ [])) ++ (10 ∷ rest)
  whole =
      sym (take-append-drop n (drop place file))
      ∙ ap (λ (l : List ℕ). line ++ l) (drop-drop n place file ∙ ended)
      ∙ sym (append_assoc line (13 ∷ []) (10 ∷ rest))

  none : all_of not_lf (line ++ (13 ∷ [])) ≡ true
  unfolding all_of
  none = all_append not_lf line (13 ∷ []) ∙ rw (shaped_no_lf line clean.shaped)

  -- its bytes are the line and CR LF
  pub clean_bytes : take r (drop place file) ≡ line ++ line_end
  clean_bytes =
      ap (λ (k : ℕ). take k (drop place file)) clean.size
      ∙ take-add n 2 (drop place file)
      ∙ ap (λ (l : List ℕ). line ++ take 2 l) (drop-drop n place file ∙ ended)

  pub clean_size : length (line ++ line_end) ≡ r
  clean_size = omega (arith, length-append line line_end, line_size, clean.size)

  -- the text there ends at its LF
  pub clean_next : place + r ≡ text_ends file place + 1
  unfolding text_ends
  clean_next =
      omega (
        arith,
        clean.size,
        line_size,
        length-append line (13 ∷ []),
        ap text_length whole ∙ text_length_before (line ++ (13 ∷ [])) rest none,
      )

  -- no blank stands at its end
  plain : unblanked line ≡ line
  plain =
      let some : 71 ≤ n = omega (arith, shortest_line line clean.shaped, line_size) in
      let last : place + (length line - 1) ≡ place + n - 1 = omega (arith, line_size) in
      let byte : get_or line (length line - 1) 0 ≡ get_or file (place + n - 1) 0 =
      get_or-take n (drop place file) (length line - 1) 0 (omega (arith, line_size))
      ∙ get_or-drop place file (length line - 1) 0
      ∙ ap (λ (k : ℕ). get_or file k 0) last in
      let whole : length line - 1 + 1 ≡ length line = omega (arith, line_size) in
      sym
      (unblanked_to line (length line - 1) (omega (arith, line_size)) (λ blank. clean.no_blank (sym byte ∙ blank)) (λ k after h. absurd (omega (arith, line_size))))
      ∙ ap (λ (k : ℕ). take k line) whole
      ∙ take-length line

  -- so it gives itself, and nothing is said
  pub clean_gives : (count : ℕ) → gives_at file place count ≡ record { file = line ++ line_end; list = []; more = true }
  unfolding gives_at gives_of
  clean_gives count =
      ap (first_gives count)
      (ap texts_of whole
      ∙ text_before (line ++ (13 ∷ [])) rest none
      ∙ ap (λ (l : List (List ℕ)). (line ++ (13 ∷ [])) ∷ l) (never_empty rest))
      ∙ rw (line_before_cr line, plain, line_kept line clean.shaped, line_before_cr line, plain, cr_at_end line, same_refl line, none_said count)

  -- and the texts after it follow
  pub clean_step : (count : ℕ) → mended_from count (texts_of (drop place file))
      ≡ record {
        file = take r (drop place file) ++ (mended_from (count + 1) (texts_of (drop (place + r) file))).file;
        list = (mended_from (count + 1) (texts_of (drop (place + r) file))).list;
      }
  clean_step count =
      mended_turn file place count (omega (arith, clean.within))
      ∙ rw (clean_gives count, clean_bytes, clean_next)

  pub clean_within : (place < place + r) × (place + r ≤ length file)
  clean_within = (omega (arith, clean.size), omega (arith, clean.size, clean.within))

-- how long a line without a comment is at most: the text has as many bytes
pub plain_within : (text : List ℕ) (n : ℕ) → plain_length text ≡ Some n → (n ≤ length text) × ((71 ≤ n) × (n ≤ 74))
unfolding plain_length
plain_within text n is =
    either (leb 74 (length text))
    (λ long.
    let few = edition_few text (edition_length text) refl in
    let same = rw long at is in
    let size : n ≡ 71 + edition_length text = cc in
    (omega (arith, few, size, leb-true 74 (length text) long), (omega (arith, size), omega (arith, few, size))))
    (λ short. let none = rw short at is in cc)

-- as the code finds it
pub clean_found : (file : List ℕ) (place n : ℕ) → is_line (take (place + n - place) (drop place file)) ≡ true → place + n + 2 ≤ length file
    → get_or file (place + n) 0 ≡ 13 → get_or file (place + n + 1) 0 ≡ 10 → (get_or file (place + n - 1) 0 ≡ 32 → ⊥) → CleanAt file place (n + 2)
clean_found file place n shaped within cr lf no_blank =
    let size : place + n - place ≡ n = omega arith in
    record {
      n = n;
      size = refl;
      within = within;
      shaped = sym (ap (λ (k : ℕ). is_line (take k (drop place file))) size) ∙ shaped;
      no_blank = no_blank;
      cr = cr;
      lf = lf;
    }

-- many of them lie within the file, and each has a byte at least
pub cleans_within : (file : List ℕ) (place k end : ℕ) → place ≤ length file → Cleans file place k end → (place + k ≤ end) × (end ≤ length file)
cleans_within file place zero end within run = (omega (arith, run), omega (arith, run))
cleans_within file place (suc k) end within run =
    let earlier = cleans_within file place k run.0 within run.2.0 in
    let last = clean_within file run.0 run.1 run.2.1.0 in
    (omega (arith, earlier, last, run.2.1.1), omega (arith, last, run.2.1.1))

-- they give themselves, and then the texts after them follow
pub cleans_left : (file : List ℕ) (place k end count : ℕ) → place ≤ length file → Cleans file place k end → mended_from count (texts_of (drop place file))
    ≡ record {
      file = take (end - place) (drop place file) ++ (mended_from (count + k) (texts_of (drop end file))).file;
      list = (mended_from (count + k) (texts_of (drop end file))).list;
    }
cleans_left file place zero end count within run =
    let none : end - place ≡ 0 = omega (arith, run) in
    let same : count + 0 ≡ count = omega arith in
    rw (none, run, same)
cleans_left file place (suc k) end count within run =
    let middle = run.0 in
    let r = run.1 in
    let earlier = cleans_within file place k middle within run.2.0 in
    let last = run.2.1.0 in
    let one : count + k + 1 ≡ count + suc k = omega arith in
    let size : middle - place + r ≡ end - place = omega (arith, run.2.1.1, earlier) in
    let place-back : place + (middle - place) ≡ middle = omega (arith, earlier) in
    let bytes : take (middle - place) (drop place file) ++ take r (drop middle file) ≡ take (end - place) (drop place file) =
    ap (λ (l : List ℕ). take (middle - place) (drop place file) ++ take r l)
    (ap (λ (n : ℕ). drop n file) (sym place-back) ∙ sym (drop-drop (middle - place) place file))
    ∙ sym (take-add (middle - place) r (drop place file))
    ∙ ap (λ (n : ℕ). take n (drop place file)) size in
    cleans_left file place k middle count within run.2.0
    ∙ rw (clean_step file middle r last (count + k), one, ← run.2.1.1)
    (ap (λ (l : List ℕ). mended l (mended_from (count + suc k) (texts_of (drop end file))).list)
    (sym (append_assoc (take (middle - place) (drop place file)) (take r (drop middle file)) (mended_from (count + suc k) (texts_of (drop end file))).file)
    ∙ ap (λ (l : List ℕ). l ++ (mended_from (count + suc k) (texts_of (drop end file))).file) bytes))
