-- One turn: a text that may be looked at gives its part, and a run of clean records gives itself; the rest is left.
-- Assumes nothing.
use mathlib.Core.Path.{◌≡◌, refl, sym, ap, ◌∙◌}
use mathlib.Core.Bool.{true}
use mathlib.Core.List.{List, [], ◌++◌, append-nil}
use Prim.Native.Nat.{ℕ, suc, ◌+◌, ◌-◌, ◌^◌, ◌≤◌, ◌<◌}
use native.Mathlib.Omega.{arith}
use borrow.Author.Tests.{ltb-true, ltb-false}
use lib.Dec.{ltb}
use lib.ListN.{length, take, drop, length-drop}
use lib.Seq.{length-take-le}
use Rattle.octets.proofs.Every.{either}
use Rattle.text.specs.Texts.{placed}
use Rattle.text.proofs.Numerals.{width-at-most}
use Rattle.text.proofs.PlacedTexts.{placed_none}
use Rattle.file_lines.specs.Texts.{text_ends}
use Rattle.mailed_lines.specs.Texts.{texts_of}
use Rattle.mailed_lines.proofs.CutTexts.{text_begins}
use Rattle.mended_lines.specs.Gives.{Gives}
use Rattle.mended_lines.specs.Giving.{given, out_after, list_after}
use Rattle.mended_lines.specs.declared.Given.{Given}
use Rattle.mending.specs.Mending.{Mended, followed, mended_from}
use Rattle.mending.specs.Walking.{gives_at, Cleans, places_of, left_of, Turnable, Turned}
use Rattle.mending.specs.declared.walking.Going.{Going}
use Rattle.mending.proofs.TextGives.{mended_turn, more_ended, gives-bounds}
use Rattle.mending.proofs.CleanLines.{cleans_within, cleans_left}

-- two lengths below 63 bits, and little more than the place that one of them begins at
sum_fits : (a whole place x more : ℕ) → a < 2 ^ 63 → whole < 2 ^ 63 → place ≤ whole → x ≤ whole - place + more → more ≤ place + 1 → a + x < 2 ^ 64
sum_fits a whole place x more small whole-small within short few = omega arith

module _ (file : List ℕ) (t : Going) (out list : List ℕ) (able : Turnable file t out list) where
  pub count_small : t.count + 1 < 2 ^ 64
  count_small = omega (arith, able.within, able.counted, able.short)

  -- what the text there gives, and what is left after it
  module _ (end : ℕ) (found : end ≡ text_ends file t.place) (r : Given) (gave : r ≡ given (gives_at file t.place t.count)) where
    abbrev g : Gives
    g = gives_at file t.place t.count

    file_size : r.file ≡ length g.file
    file_size = ap (λ (x : Given). x.file) gave

    list_size : r.list ≡ length g.list
    list_size = ap (λ (x : Given). x.list) gave

    -- a count is short, or its place is far: so no length goes beyond 64 bits
    no_wrap : (t.file + length g.file < 2 ^ 64) × (t.list + length g.list < 2 ^ 64)
    no_wrap =
        either (ltb (t.count + 1) 1000000)
        (λ few.
        let small : suc t.count < 10 ^ 6 = omega (arith, ltb-true (t.count + 1) 1000000 few) in
        let bounds =
        gives-bounds t.count 6 (width-at-most t.count 6 (omega arith) (omega arith)) (width-at-most (suc t.count) 6 small (omega arith))
        file t.place able.within in (
          sum_fits _ _ _ _ 6 able.file_short able.short able.within bounds.0 (omega (arith, able.behind)),
          sum_fits _ _ _ _ 36 able.list_short able.short able.within bounds.1 (omega (arith, able.behind)),
        ))
        (λ many.
        let large : 1000000 ≤ t.count + 1 = ltb-false (t.count + 1) 1000000 many in
        let digits : suc t.count < 10 ^ 20 = omega (arith, count_small) in
        let bounds =
        gives-bounds t.count 20 (width-at-most t.count 20 (omega arith) (omega arith)) (width-at-most (suc t.count) 20 digits (omega arith))
        file t.place able.within in (
          sum_fits _ _ _ _ 6 able.file_short able.short able.within bounds.0 (omega (arith, able.behind)),
          sum_fits _ _ _ _ 78 able.list_short able.short able.within bounds.1 (omega (arith, able.counted, large)),
        ))

    pub file-fits : t.file + r.file < 2 ^ 64
    file-fits = omega (arith, no_wrap.0, file_size)

    pub list-fits : t.list + r.list < 2 ^ 64
    list-fits = omega (arith, no_wrap.1, list_size)

    abbrev after : Going
    after = record { place = end + 1; count = t.count + 1; file = t.file + r.file; list = t.list + r.list; more = r.more }

    abbrev next : Mended
    next = mended_from (t.count + 1) (texts_of (drop (text_ends file t.place + 1) file))

    same_more : r.more ≡ g.more
    same_more = ap (λ (x : Given). x.more) gave

    left-followed : left_of file t ≡ followed g next
    left-followed = rw able.more (mended_turn file t.place t.count able.within)

    left_split : ((left_of file t).file ≡ g.file ++ (left_of file after).file) × ((left_of file t).list ≡ g.list ++ (left_of file after).list)
    left_split =
        either g.more
        (λ on.
        rw (left-followed, same_more, on, found) (refl, refl))
        (λ over.
        rw (left-followed, same_more, over) (sym (append-nil g.file), sym (append-nil g.list)))

    pub any-turned : (out₁ list₁ : List ℕ) → out₁ ≡ out_after g (places_of t) out → list₁ ≡ list_after g (places_of t) list → Turned file t after out list out₁ list₁
    any-turned out₁ list₁ out_is list_is =
        record {
          gave = record { file = g.file; list = g.list };
          out_is = out_is;
          list_is = list_is;
          file_at = omega (arith, file_size);
          list_at = omega (arith, list_size);
          file_left = left_split.0;
          list_left = left_split.1;
          inside = λ on. omega (arith, found, more_ended file t.place t.count able.within (sym same_more ∙ on));
          rises = omega (arith, found, text_begins file t.place);
          counted = omega (arith, found, text_begins file t.place);
        }

  -- a run of clean records
  module _ (k end : ℕ) (some : 0 < k) (run : Cleans file t.place k end) where
    bounds : (t.place + k ≤ end) × (end ≤ length file)
    bounds = cleans_within file t.place k end able.within run

    pub run-begins : t.place ≤ end
    run-begins = omega (arith, bounds)

    pub run-count : t.count + k < 2 ^ 64
    run-count = omega (arith, bounds, able.counted, able.short)

    pub run_fits : t.file + (end - t.place) < 2 ^ 64
    run_fits = omega (arith, bounds, able.file_short, able.short)

    abbrev bytes : List ℕ
    bytes = take (end - t.place) (drop t.place file)

    abbrev beyond : Going
    beyond = record { place = end; count = t.count + k; file = t.file + (end - t.place); list = t.list; more = true }

    left-run : left_of file t ≡ record { file = bytes ++ (left_of file beyond).file; list = (left_of file beyond).list }
    left-run = rw able.more (cleans_left file t.place k end t.count able.within run)

    pub run-turned : (out₁ : List ℕ) → out₁ ≡ placed t.file bytes out → Turned file t beyond out list out₁ list
    run-turned out₁ put =
        record {
          gave = record { file = bytes; list = [] };
          out_is = put;
          list_is = sym (placed_none t.list list);
          file_at = omega (arith, length-take-le (end - t.place) (drop t.place file) (omega (arith, bounds, length-drop t.place file)));
          list_at = omega arith;
          file_left = ap (λ (m : Mended). m.file) left-run;
          list_left = ap (λ (m : Mended). m.list) left-run;
          inside = λ on. bounds.1;
          rises = omega (arith, bounds);
          counted = omega (arith, bounds);
        }
