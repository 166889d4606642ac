-- The mending between two turns: what was given and what is left are all that the texts give.
-- Assumes nothing.
use Rattle.std.specs.Prelude.{Ok, Err}
use Rattle.forms.specs.declared.refusals.Refusal.TheVariants.{Room}
use mathlib.Core.Path.{◌≡◌, refl, sym, ap, ◌∙◌}
use mathlib.Core.Bool.{true, false}
use mathlib.Core.List.{List, ◌++◌, append_assoc, append-nil}
use mathlib.Core.Logic.{inl, inr, ⊎_elim}
use Prim.Native.Nat.{ℕ, ◌+◌, ◌≤◌}
use native.Mathlib.Omega.{arith}
use borrow.Author.Tests.{le-leb, leb-true}
use lib.Dec.{leb}
use lib.ListN.{length, length-append}
use Rattle.octets.proofs.Every.{either, never_both, and_first, and_second}
use Rattle.text.specs.Texts.{placed}
use Rattle.text.proofs.PlacedTexts.{length-placed, placed_none, placed-next}
use Rattle.mended_lines.specs.declared.Places.{Places}
use Rattle.mending.specs.Mending.{Mended, nothing}
use Rattle.mending.specs.Walking.{left_of, Turnable, Turned, later_of, fits, answered, size_after, Walkable}
use Rattle.mending.specs.declared.Lengths.{Lengths}
use Rattle.mending.specs.declared.walking.Going.{Going}
use Rattle.mending.proofs.Puts.{placed_empty}

-- the lengths so far
abbrev pub size_so_far : Going → Lengths
size_so_far t = record { file = t.file; list = t.list }

module _ (file : List ℕ) (place : ℕ) (at : Places) (room : Lengths) (out₀ list₀ : List ℕ) where
  abbrev all : Mended
  all = later_of file place

  -- where the mending stands
  pub record Went (t : Going) (out list : List ℕ) : Type 0 where
    pub front : Mended
    pub file_at : t.file ≡ at.file + length front.file
    pub list_at : t.list ≡ at.list + length front.list
    pub out_is : out ≡ placed at.file front.file out₀
    pub list_is : list ≡ placed at.list front.list list₀
    pub all-file : all.file ≡ front.file ++ (left_of file t).file
    pub all_list : all.list ≡ front.list ++ (left_of file t).list
    pub inside : t.more ≡ true → t.place ≤ length file
    pub counted : t.count + 33 ≤ t.place
    pub behind : 37 ≤ t.place

  module _ (ok : Walkable file place at room out₀ list₀) where
    pub went-start : Went (record { place = place; count = 4; file = at.file; list = at.list; more = true }) out₀ list₀
    unfolding later_of
    went-start =
        record {
          front = nothing;
          file_at = omega arith;
          list_at = omega arith;
          out_is = sym (placed_none at.file out₀);
          list_is = sym (placed_none at.list list₀);
          all-file = refl;
          all_list = refl;
          inside = λ more. ok.within;
          counted = omega (arith, ok.behind);
          behind = ok.behind;
        }

    module _ (t : Going) (out list : List ℕ) (went : Went t out list) where
      file-sizes : length all.file ≡ length went.front.file + length (left_of file t).file
      file-sizes = ap length went.all-file ∙ length-append went.front.file (left_of file t).file

      list-sizes : length all.list ≡ length went.front.list + length (left_of file t).list
      list-sizes = ap length went.all_list ∙ length-append went.front.list (left_of file t).list

      pub out_length : length out ≡ length out₀
      out_length = ap length went.out_is ∙ length-placed at.file went.front.file out₀

      pub list_length : length list ≡ length list₀
      list_length = ap length went.list_is ∙ length-placed at.list went.front.list list₀

      -- what fits as a whole fits so far
      whole-fits : fits (size_after at all) room ≡ true → fits (size_so_far t) room ≡ true
      unfolding fits size_after
      whole-fits good =
          let size = size_after at all in
          let file-fits = leb-true size.file room.file (and_first (leb size.file room.file) (leb size.list room.list) good) in
          let list-fits = leb-true size.list room.list (and_second (leb size.file room.file) (leb size.list room.list) good) in
          rw (
            le-leb t.file room.file (omega (arith, file-fits, went.file_at, file-sizes)),
            le-leb t.list room.list (omega (arith, list-fits, went.list_at, list-sizes)),
          )

      -- so what does not fit so far does not at the end, and the outputs are empty
      module _ (bad : fits (size_so_far t) room ≡ false) where
        too_long : fits (size_after at all) room ≡ false
        too_long =
            either (fits (size_after at all) room)
            (λ good. absurd (never_both (fits (size_so_far t) room) bad (whole-fits good)))
            (λ long. long)

        pub refused-answer : answered room (size_after at all) ≡ Err Room
        unfolding answered
        refused-answer = rw too_long

        no-outputs : (length out₀ ≡ 0) × (length list₀ ≡ 0)
        no-outputs =
            ⊎_elim (λ none. none) (λ taken. absurd (never_both (fits (size_after at all) room) too_long taken.0)) ok.outputs

        pub refused-outputs : (out ≡ placed at.file all.file out₀) × (list ≡ placed at.list all.list list₀)
        refused-outputs = (
          went.out_is ∙ placed_empty at.file went.front.file out₀ no-outputs.0 ∙ sym (placed_empty at.file all.file out₀ no-outputs.0),
          went.list_is ∙ placed_empty at.list went.front.list list₀ no-outputs.1 ∙ sym (placed_empty at.list all.list list₀ no-outputs.1),
        )

      -- at the end all is given
      module _ (over : t.more ≡ false) where
        all-given : (all.file ≡ went.front.file) × (all.list ≡ went.front.list)
        all-given = (
          went.all-file ∙ rw over (append-nil went.front.file),
          went.all_list ∙ rw over (append-nil went.front.list),
        )

        pub end-size : size_so_far t ≡ size_after at all
        unfolding size_after
        end-size = rw (went.file_at, went.list_at, all-given.0, all-given.1)

        pub done-answer : fits (size_so_far t) room ≡ true → Ok (size_so_far t) ≡ answered room (size_after at all)
        unfolding answered
        done-answer good = rw (← end-size, good)

        pub end-outputs : (out ≡ placed at.file all.file out₀) × (list ≡ placed at.list all.list list₀)
        end-outputs = (
          went.out_is ∙ ap (λ (l : List ℕ). placed at.file l out₀) (sym all-given.0),
          went.list_is ∙ ap (λ (l : List ℕ). placed at.list l list₀) (sym all-given.1),
        )

      -- one turn more
      module _ (more : t.more ≡ true) (good : fits (size_so_far t) room ≡ true) where
        pub may-turn : Turnable file t out list
        unfolding fits
        may-turn =
            record {
              more = more;
              within = went.inside more;
              behind = went.behind;
              counted = went.counted;
              short = ok.short;
              file_short =
                  omega (
                    arith,
                    leb-true t.file room.file (and_first (leb t.file room.file) (leb t.list room.list) good),
                    ok.file_room,
                  );
              list_short =
                  omega (
                    arith,
                    leb-true t.list room.list (and_second (leb t.file room.file) (leb t.list room.list) good),
                    ok.list_room,
                  );
              outputs =
                  ⊎_elim
                  (λ none. inl (out_length ∙ none.0, list_length ∙ none.1))
                  (λ taken.
                  inr (
                    omega (arith, out_length, went.file_at, file-sizes, taken.1.0),
                    omega (arith, list_length, went.list_at, list-sizes, taken.1.1),
                  ))
                  ok.outputs;
            }

        module _ (r : Going) (out₁ list₁ : List ℕ) (turned : Turned file t r out list out₁ list₁) where
          abbrev gave : Mended
          gave = turned.gave

          file-split : length (left_of file t).file ≡ length gave.file + length (left_of file r).file
          file-split = ap length turned.file_left ∙ length-append gave.file (left_of file r).file

          list-split : length (left_of file t).list ≡ length gave.list + length (left_of file r).list
          list-split = ap length turned.list_left ∙ length-append gave.list (left_of file r).list

          -- what is put after what was put
          file-put : placed t.file gave.file (placed at.file went.front.file out₀) ≡ placed at.file (went.front.file ++ gave.file) out₀
          file-put =
              ⊎_elim
              (λ none.
              ap (placed t.file gave.file) (placed_empty at.file went.front.file out₀ none.0)
              ∙ placed_empty t.file gave.file out₀ none.0
              ∙ sym (placed_empty at.file (went.front.file ++ gave.file) out₀ none.0))
              (λ taken.
              placed-next at.file t.file went.front.file gave.file out₀ went.file_at
              (omega (arith, file-sizes, file-split, taken.1.0)))
              ok.outputs

          list_put : placed t.list gave.list (placed at.list went.front.list list₀) ≡ placed at.list (went.front.list ++ gave.list) list₀
          list_put =
              ⊎_elim
              (λ none.
              ap (placed t.list gave.list) (placed_empty at.list went.front.list list₀ none.1)
              ∙ placed_empty t.list gave.list list₀ none.1
              ∙ sym (placed_empty at.list (went.front.list ++ gave.list) list₀ none.1))
              (λ taken.
              placed-next at.list t.list went.front.list gave.list list₀ went.list_at
              (omega (arith, list-sizes, list-split, taken.1.1)))
              ok.outputs

          pub went-turned : Went r out₁ list₁
          went-turned =
              record {
                front = record { file = went.front.file ++ gave.file; list = went.front.list ++ gave.list };
                file_at = omega (arith, went.file_at, turned.file_at, length-append went.front.file gave.file);
                list_at = omega (arith, went.list_at, turned.list_at, length-append went.front.list gave.list);
                out_is = turned.out_is ∙ ap (placed t.file gave.file) went.out_is ∙ file-put;
                list_is = turned.list_is ∙ ap (placed t.list gave.list) went.list_is ∙ list_put;
                all-file = went.all-file
                    ∙ ap (λ (l : List ℕ). went.front.file ++ l) turned.file_left
                    ∙ sym (append_assoc went.front.file gave.file (left_of file r).file);
                all_list = went.all_list
                    ∙ ap (λ (l : List ℕ). went.front.list ++ l) turned.list_left
                    ∙ sym (append_assoc went.front.list gave.list (left_of file r).list);
                inside = turned.inside;
                counted = omega (arith, went.counted, turned.counted);
                behind = omega (arith, went.behind, turned.rises);
              }
