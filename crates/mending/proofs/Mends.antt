-- What mending comes to, by its tests, and what the program prints then.
-- Assumes nothing.
use Rattle.std.specs.Prelude.{Some, Result, Ok, Err}
use Rattle.forms.specs.declared.refusals.Refusal.{Refusal}
use Rattle.forms.specs.declared.refusals.Refusal.TheVariants.{Shape, Room}
use Rattle.std.proofs.Common.{◌≢◌}
use Rattle.std.specs.Result.{is_ok}
use mathlib.Core.Path.{◌≡◌, refl, sym, ap, subst, ◌∙◌}
use mathlib.Core.Bool.{Bool, true, false, cond}
use mathlib.Core.List.{List, []}
use mathlib.Core.Logic.{inl, inr}
use Prim.Native.Nat.{ℕ, ◌+◌, ◌≤◌, ◌<◌, ◌^◌}
use native.Mathlib.Omega.{arith}
use borrow.Author.Tests.{le-leb, lt-leb, leb-true}
use lib.Dec.{leb}
use lib.ListN.{length, length-append}
use Rattle.octets.proofs.Every.{either, and_first, and_second}
use Rattle.text.specs.Ascii.{ascii}
use Rattle.text.specs.Texts.{placed}
use Rattle.text.proofs.PlacedTexts.{length-placed, placed_start, placed-next}
use Rattle.forms.specs.Refusals.{by}
use Rattle.mending.specs.Putting.{Takes}
use Rattle.mended_lines.specs.declared.Places.{Places}
use Rattle.mending.specs.Mending.{Mended, mended_of, is_mended, Outcome, done, refused, mending}
use Rattle.mending.specs.Answers.{answer_of, file_lent, list_lent}
use Rattle.mending.specs.Program.{only, printed, printing, refusal_printed}
use Rattle.mending.specs.Walking.{header_ends, header_of, size_of, later_of, fits, answered, size_after, sizes_of, SurelyFits, Walkable}
use Rattle.mending.specs.declared.Lengths.{Lengths}
use Rattle.mending.specs.declared.header.Ends.{Ends}
use Rattle.mending.proofs.HeaderTexts.{ends_rise, header_and_later, good-place}
use Rattle.mending.proofs.Rooms.{file_room_lem, list_room_lem}

-- the room of two outputs
abbrev pub room_of : List ℕ → List ℕ → Lengths
room_of out list = record { file = length out; list = length list }

-- a walk's answer is a refusal where its test fails
told_ok : (t : Bool) (size : Lengths) → is_ok {E = Refusal} (cond t (Ok size) (Err Room)) ≡ t
told_ok true size = refl
told_ok false size = refl

-- mending by its tests
module _ (file out list : List ℕ) where
  abbrev comes : Outcome
  comes = mending file (length out) (length list)

  pub comes_12 : is_mended file ≡ false → comes ≡ refused (by 12)
  unfolding mending
  comes_12 bad = rw bad

  module _ (good : is_mended file ≡ true) where
    pub comes-108 : fits (sizes_of (mended_of file)) (room_of out list) ≡ false → comes ≡ refused (by 108)
    unfolding mending fits
    comes-108 long = rw (good, long)

    pub comes-done : fits (sizes_of (mended_of file)) (room_of out list) ≡ true → comes ≡ done (mended_of file)
    unfolding mending fits
    comes-done fit = rw (good, fit)

-- what a call answers and leaves in the outputs
abbrev pub Mends : List ℕ → List ℕ → List ℕ → Result Lengths Refusal → List ℕ → List ℕ → Type 0
Mends file out list a out₁ list₁ =
    (a ≡ answer_of (mending file (length out) (length list)))
    × ((out₁ ≡ file_lent (mending file (length out) (length list)) out) × (list₁ ≡ list_lent (mending file (length out) (length list)) list))

pub mends_108 : (file out list : List ℕ) → is_mended file ≡ true → fits (sizes_of (mended_of file)) (room_of out list) ≡ false → Mends file out list (Err Room) out list
mends_108 file out list good long = rw (comes-108 file out list good long) (refl, (refl, refl))

pub mends_12 : (file out list : List ℕ) → is_mended file ≡ false → Mends file out list (Err Shape) out list
mends_12 file out list bad = rw (comes_12 file out list bad) (refl, (refl, refl))

-- a file with a good header
module _ (file : List ℕ) (e : Ends) (made : header_ends file ≡ Some e) (good : is_mended file ≡ true) where
  abbrev header : Mended
  header = header_of file e

  abbrev later : Mended
  later = later_of file (e.third + 1)

  abbrev whole : Mended
  whole = mended_of file

  file_size : length whole.file ≡ length header.file + length later.file
  file_size = ap length (header_and_later file e made).0 ∙ length-append header.file later.file

  list_size : length whole.list ≡ length header.list + length later.list
  list_size = ap length (header_and_later file e made).1 ∙ length-append header.list later.list

  -- measured in two parts, both are as long as they are
  pub sizes_whole : size_after (size_of header) later ≡ sizes_of whole
  unfolding size_after size_of
  sizes_whole = rw (file_size, list_size)

  -- room of less than 2 ^ 63 bytes: it may be measured
  module _ (room : Lengths) (short : length file < 2 ^ 63) (file-room-short : room.file < 2 ^ 63) (list-room-short : room.list < 2 ^ 63) where
    pub may-measure : (at : Places) → at ≡ size_of header → Walkable file (e.third + 1) at room [] []
    may-measure at sized =
        record {
          within = (ends_rise file e made).1.1;
          behind = good-place file e made good;
          short = short;
          file_room = file-room-short;
          list_room = list-room-short;
          outputs = inl (refl, refl);
        }

  -- what the measure says
  module _ (room : Lengths) (at : Places) (sized : at ≡ size_of header) (a : Result Lengths Refusal) (is : a ≡ answered room (size_after at later)) where
    all-measured : a ≡ answered room (sizes_of whole)
    all-measured = is ∙ ap (λ (p : Places). answered room (size_after p later)) sized ∙ ap (answered room) sizes_whole

    pub measured_ok : is_ok a ≡ fits (sizes_of whole) room
    unfolding answered
    measured_ok = ap is_ok all-measured ∙ told_ok (fits (sizes_of whole) room) (sizes_of whole)

  -- every file of its size fits
  pub sure_fits : (room : Lengths) → SurelyFits (length file) room → true ≡ fits (sizes_of whole) room
  unfolding fits
  sure_fits room sure =
      rw (
        le-leb (length whole.file) room.file (omega (arith, sure, file_room_lem file good)),
        le-leb (length whole.list) room.list (omega (arith, sure, list_room_lem file good sure.0)),
      )

  -- outputs, none of which has 2 ^ 63 bytes
  module _ (out list : List ℕ) (short : length file < 2 ^ 63) (out-short : length out < 2 ^ 63) (list_short : length list < 2 ^ 63) where
    module _ (fit : fits (sizes_of whole) (room_of out list) ≡ true) where
      file-fits : length whole.file ≤ length out
      unfolding fits
      file-fits = leb-true _ _ (and_first (leb (length whole.file) (length out)) (leb (length whole.list) (length list)) fit)

      list-fits : length whole.list ≤ length list
      unfolding fits
      list-fits = leb-true _ _ (and_second (leb (length whole.file) (length out)) (leb (length whole.list) (length list)) fit)

      -- the header is taken
      pub header-taken : Takes 0 header.file out × Takes 0 header.list list
      header-taken = (
        (omega (arith, file-fits, file_size, out-short), inl (omega (arith, file-fits, file_size))),
        (omega (arith, list-fits, list_size, list_short), inl (omega (arith, list-fits, list_size))),
      )

      -- and then the rest
      module _ (out₁ list₁ : List ℕ) (out_is : out₁ ≡ placed 0 header.file out) (list_is : list₁ ≡ placed 0 header.list list) where
        out_length : length out₁ ≡ length out
        out_length = ap length out_is ∙ length-placed 0 header.file out

        list_length : length list₁ ≡ length list
        list_length = ap length list_is ∙ length-placed 0 header.list list

        pub may-walk : Walkable file (e.third + 1) (size_of header) (room_of out list) out₁ list₁
        unfolding size_of
        may-walk =
            record {
              within = (ends_rise file e made).1.1;
              behind = good-place file e made good;
              short = short;
              file_room = out-short;
              list_room = list_short;
              outputs = inr (ap (λ (s : Lengths). fits s (room_of out list)) sizes_whole ∙ fit, (omega (arith, file-fits, file_size, out_length), omega (arith, list-fits, list_size, list_length)));
            }

        pub walked-done : answered (room_of out list) (size_after (size_of header) later) ≡ answer_of (mending file (length out) (length list))
        unfolding answered
        walked-done = rw (sizes_whole, fit, comes-done file out list good fit)

        pub walked-file : placed (size_of header).file later.file out₁ ≡ file_lent (mending file (length out) (length list)) out
        unfolding size_of
        walked-file =
            ap (placed (length header.file) later.file) out_is
            ∙ placed-next 0 (length header.file) header.file later.file out (omega arith) (omega (arith, file-fits, file_size))
            ∙ ap (λ (l : List ℕ). placed 0 l out) (sym (header_and_later file e made).0)
            ∙ placed_start whole.file out file-fits
            ∙ ap (λ (o : Outcome). file_lent o out) (sym (comes-done file out list good fit))

        pub walked-list : placed (size_of header).list later.list list₁ ≡ list_lent (mending file (length out) (length list)) list
        unfolding size_of
        walked-list =
            ap (placed (length header.list) later.list) list_is
            ∙ placed-next 0 (length header.list) header.list later.list list (omega arith) (omega (arith, list-fits, list_size))
            ∙ ap (λ (l : List ℕ). placed 0 l list) (sym (header_and_later file e made).1)
            ∙ placed_start whole.list list list-fits
            ∙ ap (λ (o : Outcome). list_lent o list) (sym (comes-done file out list good fit))

        pub walked : (at : Places) → at ≡ size_of header → (a : Result Lengths Refusal) (out₂ list₂ : List ℕ)
            → (a ≡ answered (room_of out list) (size_after at later)) × ((out₂ ≡ placed at.file later.file out₁) × (list₂ ≡ placed at.list later.list list₁))
            → Mends file out list a out₂ list₂
        walked at sized a out₂ list₂ put = (
          put.0 ∙ ap (λ (p : Places). answered (room_of out list) (size_after p later)) sized ∙ walked-done,
          (
            put.1.0 ∙ ap (λ (p : Places). placed p.file later.file out₁) sized ∙ walked-file,
            put.1.1 ∙ ap (λ (p : Places). placed p.list later.list list₁) sized ∙ walked-list,
          ),
        )

-- what the program prints, by the input's length and its header
module _ (input out list : List ℕ) where
  abbrev prints : Outcome
  prints = printing input (length out) (length list)

  no_file : (words : List ℕ) → printed input ≡ only words → prints ≡ refusal_printed words (length list)
  unfolding printing refusal_printed
  no_file words is = rw (is, le-leb 0 (length out) (omega arith))

  pub prints_103 : 65536 < length input → prints ≡ refusal_printed (ascii "refused 103\n") (length list)
  unfolding printed
  prints_103 long = no_file (ascii "refused 103\n") (rw (lt-leb (length input) 65536 long))

  module _ (short : length input ≤ 65536) where
    pub prints-12 : is_mended input ≡ false → prints ≡ refusal_printed (ascii "refused 12\n") (length list)
    unfolding printed
    prints-12 bad = no_file (ascii "refused 12\n") (rw (le-leb (length input) 65536 short, bad))

    pub prints-mended : is_mended input ≡ true → prints ≡ mending input (length out) (length list)
    unfolding printing printed mending
    prints-mended good = rw (le-leb (length input) 65536 short, good)

-- an answer that is a refusal with 12, or another answer, tells of the header
module _ (file out list : List ℕ) where
  abbrev answers : Result Lengths Refusal
  answers = answer_of (mending file (length out) (length list))

  refused_good : is_mended file ≡ true → (r : Refusal) → answers ≡ Err r → r ≡ Room
  refused_good good r is =
      either (fits (sizes_of (mended_of file)) (room_of out list))
      (λ fit. let same = sym (ap answer_of (comes-done file out list good fit)) ∙ is in cc)
      (λ long. let same = sym (ap answer_of (comes-108 file out list good long)) ∙ is in cc)

  pub told_bad : answers ≡ Err Shape → is_mended file ≡ false
  told_bad is =
      either (is_mended file) (λ good. let same = refused_good good Shape is in cc) (λ bad. bad)

  -- and the outputs are as they were
  pub told_lent : answers ≡ Err Shape
      → (file_lent (mending file (length out) (length list)) out ≡ out) × (list_lent (mending file (length out) (length list)) list ≡ list)
  told_lent is = rw (comes_12 file out list (told_bad is)) (refl, refl)

  pub told_good : answers ≢ Err Shape → is_mended file ≡ true
  told_good other =
      either (is_mended file) (λ good. good)
      (λ bad. absurd (other (ap answer_of (comes_12 file out list bad))))

-- a refusal in words: too long for the list, or at its start
module _ (words list : List ℕ) where
  pub words_short : length list < length words
      → (Err Room ≡ answer_of (refusal_printed words (length list))) × (list ≡ list_lent (refusal_printed words (length list)) list)
  unfolding refusal_printed
  words_short short = rw (lt-leb (length words) (length list) short) (refl, refl)

  pub words_put : length words ≤ length list → (list₁ : List ℕ) → list₁ ≡ placed 0 words list
      → (Ok (record { file = 0; list = length words }) ≡ answer_of (refusal_printed words (length list)))
      × (list₁ ≡ list_lent (refusal_printed words (length list)) list)
  unfolding refusal_printed
  words_put fits list₁ put = rw (le-leb (length words) (length list) fits) (refl, put ∙ placed_start words list fits)

pub words_leave : (words out : List ℕ) (room : ℕ) → out ≡ file_lent (refusal_printed words room) out
unfolding refusal_printed
words_leave words out room = either (leb (length words) room) (λ fits. rw fits refl) (λ short. rw short refl)

-- what is printed into both outputs
abbrev pub Printed : List ℕ → List ℕ → List ℕ → Result Lengths Refusal → List ℕ → List ℕ → Type 0
Printed input out list a out₁ list₁ =
    (a ≡ answer_of (printing input (length out) (length list)))
    × ((out₁ ≡ file_lent (printing input (length out) (length list)) out) × (list₁ ≡ list_lent (printing input (length out) (length list)) list))

module _ (input out list : List ℕ) where
  -- a refusal in words leaves the file's output as it is
  words_printed : (words : List ℕ) → printing input (length out) (length list) ≡ refusal_printed words (length list) → (a : Result Lengths Refusal) (list₁ : List ℕ)
      → (a ≡ answer_of (refusal_printed words (length list))) × (list₁ ≡ list_lent (refusal_printed words (length list)) list)
      → Printed input out list a out list₁
  words_printed words is a list₁ put = rw is (put.0, (words_leave words out (length list), put.1))

  pub printed_103 : 65536 < length input → (a : Result Lengths Refusal) (list₁ : List ℕ)
      → (a ≡ answer_of (refusal_printed (ascii "refused 103\n") (length list))) × (list₁ ≡ list_lent (refusal_printed (ascii "refused 103\n") (length list)) list)
      → Printed input out list a out list₁
  printed_103 long = words_printed (ascii "refused 103\n") (prints_103 input out list long)

  module _ (small : length input ≤ 65536) (out₁ list₁ : List ℕ) (a : Result Lengths Refusal) (mends : Mends input out list a out₁ list₁) where
    -- mended, or no room
    same-printed : is_mended input ≡ true → Printed input out list a out₁ list₁
    same-printed good = rw (prints-mended input out list small good) mends

    -- of every answer but that there is no good header
    pub printed-mended : a ≢ Err Shape → Printed input out list a out₁ list₁
    printed-mended other = same-printed (told_good input out list (λ is. other (mends.0 ∙ is)))

    -- no good header
    module _ (is : a ≡ Err Shape) where
      lent : (file_lent (mending input (length out) (length list)) out ≡ out) × (list_lent (mending input (length out) (length list)) list ≡ list)
      lent = told_lent input out list (sym mends.0 ∙ is)

      pub printed-12 : (b : Result Lengths Refusal) (list₂ : List ℕ)
          → (b ≡ answer_of (refusal_printed (ascii "refused 12\n") (length list₁))) × (list₂ ≡ list_lent (refusal_printed (ascii "refused 12\n") (length list₁)) list₁)
          → Printed input out list b out₁ list₂
      printed-12 b list₂ put =
          let all =
          words_printed (ascii "refused 12\n") (prints-12 input out list small (told_bad input out list (sym mends.0 ∙ is))) b list₂
          (subst (λ (l : List ℕ). (b ≡ answer_of (refusal_printed (ascii "refused 12\n") (length l))) × (list₂ ≡ list_lent (refusal_printed (ascii "refused 12\n") (length l)) l)) (mends.1.1 ∙ lent.1) put) in
          (all.0, (mends.1.0 ∙ lent.0 ∙ all.1.0, all.1.1))
