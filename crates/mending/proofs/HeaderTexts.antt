-- The first three texts of a file, by their ends: what they give before the rest, and when they are a good header.
-- Assumes nothing.
use Rattle.std.specs.Prelude.{Some, None}
use mathlib.Core.Path.{◌≡◌, refl, sym, ap, subst, ◌∙◌}
use mathlib.Core.Bool.{Bool, true, false, cond, not, ◌&&◌}
use mathlib.Core.List.{List, [], ◌∷◌, ◌++◌, append_assoc}
use Prim.Native.Nat.{ℕ, suc, ◌+◌, ◌-◌, ◌≤◌, ◌<◌}
use native.Mathlib.Omega.{arith}
use borrow.Author.Tests.{lt-ltb, ltb-true, ltb-false}
use lib.Dec.{ltb}
use lib.ListN.{length, take, drop, length-append, length-take, length-map}
use lib.Seq.{take-append-le}
use Rattle.octets.proofs.Every.{either, never_both, and_first, and_second}
use Rattle.text.specs.Characters.{raised, raised_text}
use Rattle.text.specs.Texts.{same_text}
use Rattle.text.proofs.Numerals.{width-at-most}
use Rattle.cell_permit.specs.CellPermit.{line_end}
use Rattle.permit_file.specs.File.{is_header}
use Rattle.permit_file.proofs.Headers.{header_within, header_first}
use Rattle.file_lines.specs.Texts.{text_ends}
use Rattle.mailed_lines.specs.Texts.{texts_of}
use Rattle.mailed_lines.specs.Mailed.{ends_in_cr, line_of, unblanked}
use Rattle.mailed_lines.proofs.CutTexts.{AllWithout, first_of, rest_of, never_empty, text_begins, text_ends_within, last_text_at, first_text_at, texts_without}
use Rattle.mailed_lines.proofs.Lines.{line_short, unblanked_short}
use Rattle.mailed_lines.proofs.SaidTexts.{faults_length}
use Rattle.mended_lines.specs.Gives.{header_gives}
use Rattle.mending.specs.Mending.{Mended, mended_from, mended_texts, mended_of, is_mended}
use Rattle.mending.specs.Walking.{ends_of, ended_at, header_ends, first_text, second_text, third_text, header_of, later_of}
use Rattle.mending.specs.declared.header.Ends.{Ends}
use Rattle.mending.proofs.Again.{header_line, headed}
use Rattle.mending.proofs.GoodHeaders.{header_sizes}

-- a line is no longer than its text, mended in a header too
line_no_longer : (text : List ℕ) → length (header_line text) ≤ length text
line_no_longer text =
    omega (arith, length-map (unblanked (line_of text)) raised, unblanked_short (line_of text), line_short text)

no_header : is_header [] ≡ false
no_header = either (is_header []) (λ good. absurd (omega (arith, header_within [] good))) (λ bad. bad)

-- the tests by which the ends are found
three_made : (t : Bool) (found e : Ends) → cond t (Some found) None ≡ Some e → (t ≡ true) × (e ≡ found)
three_made true found e made = (refl, cc)
three_made false found e made = (cc, cc)

fewer_made : (t : Bool) (found : Ends) → cond t (Some found) None ≡ None → t ≡ false
fewer_made true found made = cc
fewer_made false found made = refl

-- three texts that LF ends
module _ (file : List ℕ) (e : Ends) (made : header_ends file ≡ Some e) where
  abbrev first : ℕ
  first = text_ends file 0

  abbrev second : ℕ
  second = text_ends file (first + 1)

  abbrev third : ℕ
  third = text_ends file (second + 1)

  found : (e ≡ ends_of file) × ((first < length file) × ((second < length file) × (third < length file)))
  unfolding header_ends ends_of
  found =
      let passed = three_made _ (ends_of file) e made in
      let two = and_first (ltb first (length file) && ltb second (length file)) (ltb third (length file)) passed.0 in (
        passed.1,
        (
          ltb-true first (length file) (and_first (ltb first (length file)) (ltb second (length file)) two),
          (
            ltb-true second (length file) (and_second (ltb first (length file)) (ltb second (length file)) two),
            ltb-true third (length file) (and_second (ltb first (length file) && ltb second (length file)) (ltb third (length file)) passed.0),
          ),
        ),
      )

  ends : (e.first ≡ first) × ((e.second ≡ second) × (e.third ≡ third))
  unfolding ends_of
  ends =
      let is = found.0 in
      (ap (λ (x : Ends). x.first) is, (ap (λ (x : Ends). x.second) is, ap (λ (x : Ends). x.third) is))

  -- one after the other within the file
  pub ends_rise : (e.first + 1 ≤ e.second) × ((e.second + 1 ≤ e.third) × (e.third + 1 ≤ length file))
  ends_rise =
      let is = ends in
      let within = found.1 in (
        omega (arith, is.0, is.1.0, text_begins file (first + 1)),
        (omega (arith, is.1.0, is.1.1, text_begins file (second + 1)), omega (arith, is.1.1, within.1.1)),
      )

  -- the file's texts
  pub three_texts : texts_of file ≡ first_text file e ∷ second_text file e ∷ third_text file e ∷ texts_of (drop (e.third + 1) file)
  three_texts =
      let is = ends in
      let within = found.1 in
      rw (is.0, is.1.0, is.1.1)
      (first_text_at file 0 within.0
      ∙ ap (λ (l : List (List ℕ)). take (first - 0) file ∷ l)
      (first_text_at file (first + 1) within.1.0
      ∙ ap (λ (l : List (List ℕ)). take (second - (first + 1)) (drop (first + 1) file) ∷ l) (first_text_at file (second + 1) within.1.1)))

  abbrev later : List ℕ
  later = drop (e.third + 1) file

  -- what the file gives is what they give, and then what the rest gives
  pub header_and_later : ((mended_of file).file ≡ (header_of file e).file ++ (later_of file (e.third + 1)).file)
      × ((mended_of file).list ≡ (header_of file e).list ++ (later_of file (e.third + 1)).list)
  unfolding mended_of header_of later_of header_gives
  header_and_later =
      let one = header_gives 1 (first_text file e) in
      let two = header_gives 2 (second_text file e) in
      let three = header_gives 3 (third_text file e) in
      let rest = mended_from 4 (texts_of later) in
      let whole = ap mended_texts three_texts ∙ headed (first_text file e) (second_text file e) (third_text file e) later in (
        ap (λ (m : Mended). m.file) whole
            ∙ sym (append_assoc one.file (two.file ++ three.file) rest.file
            ∙ ap (λ (l : List ℕ). one.file ++ l) (append_assoc two.file three.file rest.file)),
        ap (λ (m : Mended). m.list) whole
            ∙ sym (append_assoc one.list (two.list ++ three.list) rest.list
            ∙ ap (λ (l : List ℕ). one.list ++ l) (append_assoc two.list three.list rest.list)),
      )

  -- a good header: its three lines are long enough, and so are the texts
  module _ (good : is_mended file ≡ true) where
    sizes : (length (header_line (first_text file e)) ≡ 20) × ((length (header_line (second_text file e)) ≡ 10) × (length (header_line (third_text file e)) ≡ 4))
    unfolding is_mended mended_of
    sizes =
        let whole : texts_of file ≡ first_text file e ∷ second_text file e ∷ third_text file e ∷ first_of (texts_of later) ∷ rest_of (texts_of later) =
        three_texts ∙ ap (λ (l : List (List ℕ)). first_text file e ∷ second_text file e ∷ third_text file e ∷ l) (never_empty later) in
        header_sizes (first_text file e) (second_text file e) (third_text file e) (first_of (texts_of later)) (rest_of (texts_of later))
        (subst AllWithout whole (texts_without file))
        (sym (ap (λ (l : List (List ℕ)). is_header (mended_texts l).file) whole) ∙ good)

    pub good-size : length (header_of file e).file ≡ 40
    unfolding header_of header_gives
    good-size =
        let is = sizes in
        omega (
          arith,
          is,
          length-append (header_line (first_text file e) ++ line_end) ((header_line (second_text file e) ++ line_end) ++ (header_line (third_text file e) ++ line_end)),
          length-append (header_line (second_text file e) ++ line_end) (header_line (third_text file e) ++ line_end),
          length-append (header_line (first_text file e)) line_end,
          length-append (header_line (second_text file e)) line_end,
          length-append (header_line (third_text file e)) line_end,
        )

    -- so what follows it begins at a place beyond its letters and LFs
    pub good-place : 37 ≤ e.third + 1
    good-place =
        let is = sizes in
        omega (
          arith,
          is,
          ends_rise,
          line_no_longer (first_text file e),
          line_no_longer (second_text file e),
          line_no_longer (third_text file e),
          length-take (e.first - 0) file,
          length-take (e.second - (e.first + 1)) (drop (e.first + 1) file),
          length-take (e.third - (e.second + 1)) (drop (e.second + 1) file),
        )

  -- no more than the file's bytes, and two for each line
  pub header_short : length (header_of file e).file ≤ length file + 6
  unfolding header_of header_gives
  header_short =
      omega (
        arith,
        ends_rise,
        length-append (header_line (first_text file e) ++ line_end) ((header_line (second_text file e) ++ line_end) ++ (header_line (third_text file e) ++ line_end)),
        length-append (header_line (second_text file e) ++ line_end) (header_line (third_text file e) ++ line_end),
        length-append (header_line (first_text file e)) line_end,
        length-append (header_line (second_text file e)) line_end,
        length-append (header_line (third_text file e)) line_end,
        line_no_longer (first_text file e),
        line_no_longer (second_text file e),
        line_no_longer (third_text file e),
        length-take (e.first - 0) file,
        length-take (e.second - (e.first + 1)) (drop (e.first + 1) file),
        length-take (e.third - (e.second + 1)) (drop (e.second + 1) file),
      )

  -- what has another size is none
  pub other_size : (length (header_of file e).file ≡ 40 → ⊥) → is_mended file ≡ false
  other_size other = either (is_mended file) (λ good. absurd (other (good-size good))) (λ bad. bad)

  -- and what has 40 bytes is judged by them
  pub forty_bytes : length (header_of file e).file ≡ 40 → is_mended file ≡ is_header (header_of file e).file
  unfolding is_mended
  forty_bytes size =
      let header = (header_of file e).file in
      let rest = (later_of file (e.third + 1)).file in
      ap is_header header_and_later.0
      ∙ header_first (header ++ rest) header
      (take-append-le 40 header rest (omega (arith, size)))
      (omega (arith, size, length-append header rest))
      (omega (arith, size))

-- what is said of one of the header's three lines
header_said : (n : ℕ) (text : List ℕ) → n < 10 → length (header_gives n text).list ≤ 21
unfolding header_gives
header_said n text small =
    let line = line_of text in
    omega (
      arith,
      faults_length (not (ends_in_cr text)) (not (same_text (unblanked line) line)) (not (same_text (raised_text (unblanked line)) (unblanked line))) n,
      width-at-most n 1 (omega arith) (omega arith),
    )

pub header_list : (file : List ℕ) (e : Ends) → length (header_of file e).list ≤ 63
unfolding header_of
header_list file e =
    let one = header_gives 1 (first_text file e) in
    let two = header_gives 2 (second_text file e) in
    let three = header_gives 3 (third_text file e) in
    omega (
      arith,
      length-append one.list (two.list ++ three.list),
      length-append two.list three.list,
      header_said 1 (first_text file e) (omega arith),
      header_said 2 (second_text file e) (omega arith),
      header_said 3 (third_text file e) (omega arith),
    )

-- fewer texts are no good header
fewer_texts : (texts : List (List ℕ)) → length texts ≤ 3 → is_header (mended_texts texts).file ≡ false
unfolding mended_texts
fewer_texts [] few = no_header
fewer_texts (one ∷ []) few = no_header
fewer_texts (one ∷ two ∷ []) few = no_header
fewer_texts (one ∷ two ∷ three ∷ []) few = no_header
fewer_texts (one ∷ two ∷ three ∷ next ∷ rest) few = absurd (omega arith)

module _ (file : List ℕ) where
  one_more : (at : ℕ) → at ≤ length file → (m : ℕ) → (text_ends file at < length file → length (texts_of (drop (text_ends file at + 1) file)) ≤ m) → length (texts_of (drop at file)) ≤ suc m
  one_more at within m few =
      either (ltb (text_ends file at) (length file))
      (λ ended.
      let h = ltb-true (text_ends file at) (length file) ended in
      omega (arith, few h, ap length (first_text_at file at h)))
      (λ whole.
      omega (
        arith,
        ap length
            (last_text_at file at within
            (omega (arith, text_ends_within file at within, ltb-false (text_ends file at) (length file) whole))),
      ))

  pub fewer : header_ends file ≡ None → is_mended file ≡ false
  unfolding header_ends ends_of is_mended mended_of
  fewer made =
      let none = fewer_made (ltb first (length file) && ltb second (length file) && ltb third (length file)) (ends_of file) made in
      fewer_texts (texts_of file)
      (one_more 0 (omega arith) 2
      (λ one. one_more (first + 1) (omega arith) 1
      (λ two. one_more (second + 1) (omega arith) 0
      (λ three. absurd (never_both _ none (rw (lt-ltb first (length file) one, lt-ltb second (length file) two, lt-ltb third (length file) three)))))))
    where
      first : ℕ
      first = text_ends file 0

      second : ℕ
      second = text_ends file (text_ends file 0 + 1)

      third : ℕ
      third = text_ends file (text_ends file (text_ends file 0 + 1) + 1)

-- the end of one of them, as it is looked for
module _ (file : List ℕ) (place end : ℕ) where
  pub ended_is : ended_at file place ≡ Some end → (ltb (text_ends file place) (length file) ≡ true) × (end ≡ text_ends file place)
  unfolding ended_at
  ended_is found =
      either (ltb (text_ends file place) (length file))
      (λ more. (more, let same = rw more at found in cc))
      (λ whole. let none = rw whole at found in cc)

  pub ended_within : ended_at file place ≡ Some end → end + 1 ≤ length file
  ended_within found =
      let is = ended_is found in
      omega (arith, ltb-true (text_ends file place) (length file) is.0, is.1)

pub not_ended : (file : List ℕ) (place : ℕ) → ended_at file place ≡ None → ltb (text_ends file place) (length file) ≡ false
unfolding ended_at
not_ended file place none =
    either (ltb (text_ends file place) (length file))
    (λ more. let found = rw more at none in cc)
    (λ whole. whole)

-- all three, one after the other
module _ (file : List ℕ) where
  pub stop_first : ended_at file 0 ≡ None → header_ends file ≡ None
  unfolding header_ends ends_of
  stop_first none = rw (not_ended file 0 none)

  module _ (first : ℕ) (one : ended_at file 0 ≡ Some first) where
    pub stop-second : ended_at file (first + 1) ≡ None → header_ends file ≡ None
    unfolding header_ends ends_of
    stop-second none = rw ((ended_is file 0 first one).0, ← (ended_is file 0 first one).1, not_ended file (first + 1) none)

    module _ (second : ℕ) (two : ended_at file (first + 1) ≡ Some second) where
      pub stop-third : ended_at file (second + 1) ≡ None → header_ends file ≡ None
      unfolding header_ends ends_of
      stop-third none =
          rw (
            (ended_is file 0 first one).0,
            ← (ended_is file 0 first one).1,
            (ended_is file (first + 1) second two).0,
            ← (ended_is file (first + 1) second two).1,
            not_ended file (second + 1) none,
          )

      pub found-three : (third : ℕ) → ended_at file (second + 1) ≡ Some third → header_ends file ≡ Some (record { first = first; second = second; third = third })
      unfolding header_ends ends_of
      found-three third three =
          rw (
            (ended_is file 0 first one).0,
            ← (ended_is file 0 first one).1,
            (ended_is file (first + 1) second two).0,
            ← (ended_is file (first + 1) second two).1,
            (ended_is file (second + 1) third three).0,
            ← (ended_is file (second + 1) third three).1,
          )
