-- The mending text by text: its header, one turn, and what a walk answers. For contracts inside the crate alone.
use Rattle.std.specs.Prelude.{Bool, true, false, cond, ◌&&◌, ◌≡◌, List, [], ◌∷◌, ◌++◌, Option, Some, None, Result, Ok, ◌⊎◌, ℕ, zero, suc, ◌+◌, ◌-◌, ◌*◌, ◌/◌, ◌^◌, ◌≤◌, ◌<◌, leb, ltb, length, get_or, take, drop}
use Rattle.text.specs.Texts.{placed}
use Rattle.cell_permit.specs.Line.{is_line}
use Rattle.forms.specs.Refusals.{by, refused}
use Rattle.forms.specs.declared.refusals.Refusal.{Refusal}
use Rattle.file_lines.specs.Texts.{text_ends}
use Rattle.mailed_lines.specs.Texts.{texts_of}
use Rattle.mended_lines.specs.Gives.{Gives, header_gives}
use Rattle.mended_lines.specs.declared.Places.{Places}
use Rattle.mending.specs.Mending.{Mended, gives_of, nothing, mended_from}
use Rattle.mending.specs.declared.Lengths.{Lengths}
use Rattle.mending.specs.declared.header.Ends.{Ends}
use Rattle.mending.specs.declared.walking.Going.{Going}

-- the ends of the first three texts
unfoldable pub ends_of : List ℕ → Ends
ends_of file = record {
  first = text_ends file 0;
  second = text_ends file (text_ends file 0 + 1);
  third = text_ends file (text_ends file (text_ends file 0 + 1) + 1);
}

-- where the text ends that begins at a place; none where no LF ends it
unfoldable pub ended_at : List ℕ → ℕ → Option ℕ
ended_at file place = cond (ltb (text_ends file place) (length file)) (Some (text_ends file place)) None

-- where LF ends each of them; none where it ends fewer than three
unfoldable pub header_ends : List ℕ → Option Ends
header_ends file =
    cond (ltb (ends_of file).first (length file) && ltb (ends_of file).second (length file) && ltb (ends_of file).third (length file))
    (Some (ends_of file))
    None

-- the bytes between two places
abbrev pub text_between : List ℕ → ℕ → ℕ → List ℕ
text_between file from to = take (to - from) (drop from file)

-- the three texts that end there
abbrev pub first_text : List ℕ → Ends → List ℕ
first_text file e = text_between file 0 e.first

abbrev pub second_text : List ℕ → Ends → List ℕ
second_text file e = text_between file (e.first + 1) e.second

abbrev pub third_text : List ℕ → Ends → List ℕ
third_text file e = text_between file (e.second + 1) e.third

-- the places after what a line gave
abbrev pub places_after : Gives → Places → Places
places_after g at = record { file = at.file + length g.file; list = at.list + length g.list }

-- what they give together
unfoldable pub header_of : List ℕ → Ends → Mended
header_of file e =
    let one = header_gives 1 (first_text file e) in
    let two = header_gives 2 (second_text file e) in
    let three = header_gives 3 (third_text file e) in
    record { file = one.file ++ (two.file ++ three.file); list = one.list ++ (two.list ++ three.list) }

-- how long both are
unfoldable pub size_of : Mended → Places
size_of m = record { file = length m.file; list = length m.list }

-- what the first of some texts gives
abbrev pub first_gives : ℕ → List (List ℕ) → Gives
first_gives count [] = record { file = []; list = []; more = false }
first_gives count (text ∷ rest) = gives_of count text rest

-- what the text at a place gives
unfoldable pub gives_at : List ℕ → ℕ → ℕ → Gives
gives_at file place count = first_gives count (texts_of (drop place file))

-- at a place stands a record that needs no mending, r bytes with its CR LF
pub record CleanAt (file : List ℕ) (place r : ℕ) : Type 0 where
  pub n : ℕ
  pub size : r ≡ n + 2
  pub within : place + n + 2 ≤ length file
  pub shaped : is_line (take n (drop place file)) ≡ true
  pub no_blank : get_or file (place + n - 1) 0 ≡ 32 → ⊥
  pub cr : get_or file (place + n) 0 ≡ 13
  pub lf : get_or file (place + n + 1) 0 ≡ 10

-- so many of them stand one after the other, from a place to an end
abbrev pub Cleans : List ℕ → ℕ → ℕ → ℕ → Type 0
Cleans file place zero end = end ≡ place
Cleans file place (suc k) end = (middle r : ℕ) × (Cleans file place k middle × (CleanAt file middle r × (end ≡ middle + r)))

-- the places of what is put next
abbrev pub places_of : Going → Places
places_of t = record { file = t.file; list = t.list }

-- what is left to be given
abbrev pub left_of : List ℕ → Going → Mended
left_of file t = cond t.more (mended_from t.count (texts_of (drop t.place file))) nothing

-- a text may be looked at: lines are still looked at, no count nor length is large, and the outputs take all that is left, or are empty
pub record Turnable (file : List ℕ) (t : Going) (out list : List ℕ) : Type 0 where
  pub more : t.more ≡ true
  pub within : t.place ≤ length file
  pub behind : 37 ≤ t.place
  pub counted : t.count + 33 ≤ t.place
  pub short : length file < 2 ^ 63
  pub file_short : t.file < 2 ^ 63
  pub list_short : t.list < 2 ^ 63
  pub outputs
      : ((length out ≡ 0) × (length list ≡ 0))
      ⊎ ((t.file + length (left_of file t).file ≤ length out) × (t.list + length (left_of file t).list ≤ length list))

-- one or more texts were given, and the rest is left
pub record Turned (file : List ℕ) (t r : Going) (out list out₁ list₁ : List ℕ) : Type 0 where
  pub gave : Mended
  pub out_is : out₁ ≡ placed t.file gave.file out
  pub list_is : list₁ ≡ placed t.list gave.list list
  pub file_at : r.file ≡ t.file + length gave.file
  pub list_at : r.list ≡ t.list + length gave.list
  pub file_left : (left_of file t).file ≡ gave.file ++ (left_of file r).file
  pub list_left : (left_of file t).list ≡ gave.list ++ (left_of file r).list
  pub inside : r.more ≡ true → r.place ≤ length file
  pub rises : t.place < r.place
  pub counted : r.count + t.place ≤ t.count + r.place

-- the texts after the header, which end before a place
unfoldable pub later_of : List ℕ → ℕ → Mended
later_of file place = mended_from 4 (texts_of (drop place file))

-- both are no longer than their room
unfoldable pub fits : Lengths → Lengths → Bool
fits size room = leb size.file room.file && leb size.list room.list

-- both lengths where they fit in the room, else 108
unfoldable pub answered : Lengths → Lengths → Result Lengths Refusal
answered room size = cond (fits size room) (Ok size) (refused (by 108))

-- how long both are, put after these places
unfoldable pub size_after : Places → Mended → Lengths
size_after at m = record { file = at.file + length m.file; list = at.list + length m.list }

-- how long both are, mended
abbrev pub sizes_of : Mended → Lengths
sizes_of m = record { file = length m.file; list = length m.list }

-- every file of so many bytes fits, whatever is in it
abbrev pub SurelyFits : ℕ → Lengths → Type 0
SurelyFits size room = (size ≤ 100000) × ((11 * size ≤ room.list) × (size + size / 72 + 9 ≤ room.file))

-- a walk may begin: behind a header, with small places and rooms, and into outputs that take all of it or are empty
pub record Walkable (file : List ℕ) (place : ℕ) (at : Places) (room : Lengths) (out list : List ℕ) : Type 0 where
  pub within : place ≤ length file
  pub behind : 37 ≤ place
  pub short : length file < 2 ^ 63
  pub file_room : room.file < 2 ^ 63
  pub list_room : room.list < 2 ^ 63
  pub outputs
      : ((length out ≡ 0) × (length list ≡ 0))
      ⊎ ((fits (size_after at (later_of file place)) room ≡ true)
      × ((at.file + length (later_of file place).file ≤ length out) × (at.list + length (later_of file place).list ≤ length list)))
