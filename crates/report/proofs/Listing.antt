-- The look-through between two turns: the answers that are listed and those that are left are all answers.
-- Assumes nothing.
use Rattle.forms.specs.declared.refusals.Refusal.{Refusal}
use Rattle.cell_permit.specs.declared.Record.{Record}
use Rattle.std.specs.Prelude.{Err, Ok, Result}
use mathlib.Core.Path.{◌≡◌, refl, sym, ap, ap₂, ◌∙◌}
use mathlib.Core.List.{List, [], ◌∷◌, ◌++◌, append_assoc, append-nil}
use Prim.Native.Nat.{ℕ, ◌+◌, ◌*◌, ◌≤◌, ◌<◌}
use native.Mathlib.Omega.{arith}
use lib.ListN.{length, length-append}
use Rattle.text.specs.Texts.{placed}
use Rattle.text.proofs.PlacedTexts.{placed_none, placed-next, length-placed}
use Rattle.permit_file.specs.File.{step_by, first_place}
use Rattle.permit_file.specs.declared.Step.{Step}
use Rattle.permit_file.specs.declared.Step.TheVariants as step
use Rattle.permit_file.specs.Answers.{following, enc_answers}
use Rattle.report.specs.LookThrough.{row_of, rows_from, line_ends_in}
use Rattle.report.specs.Turns.{Few, tally_of, counted, moved_to, turned, row_put}
use Rattle.report.specs.declared.rows.Tally.{Tally}
use Rattle.permit_file.proofs.Answers.{rest, rises, all_answers, rest_step, rest_none}
use Rattle.report.proofs.Room.{Short, rows_room, all_few, few_tally}
use Rattle.report.proofs.OneMore.{rows_append, rows_more, tally_more}

-- a file and an output that are large and small enough
pub record Fitting (file out : List ℕ) : Type 0 where
  pub within : first_place ≤ length file
  pub size : length file ≤ 65536
  pub room : 18 * (line_ends_in file + 1) ≤ length out

-- where the look-through stands
pub record Going (read : List ℕ → Result Record Refusal) (file start : List ℕ) (t : Tally) (out : List ℕ) : Type 0 where
  pub done : List (Result Record Refusal)
  pub within : t.place ≤ length file
  pub all : done ++ rest read file t.place ≡ enc_answers read file
  pub tally : t ≡ tally_of t.place done
  pub written : out ≡ placed 0 (rows_from 1 done) start

module _ (read : List ℕ → Result Record Refusal) (file start : List ℕ) (opened : Fitting file start) where
  pub going_start : Going read file start (tally_of first_place []) start
  unfolding tally_of rows_from
  going_start =
      record {
        done = [];
        within = opened.within;
        all = sym (all_answers read file opened.within);
        tally = refl;
        written = sym (placed_none 0 start);
      }

  module _ (t : Tally) (out : List ℕ) (going : Going read file start t out) where
    same-written : t.written ≡ length (rows_from 1 going.done)
    unfolding tally_of
    same-written = ap (λ (u : Tally). u.written) going.tally

    same_count : t.count ≡ length going.done
    unfolding tally_of
    same_count = ap (λ (u : Tally). u.count) going.tally

    done-few : length going.done ≤ 65536
    done-few =
        omega (
          arith,
          opened.size,
          all_few read file,
          ap length going.all,
          length-append going.done (rest read file t.place),
        )

    pub few : Few 100000 t
    few = rw going.tally (few_tally t.place going.done (omega (arith, done-few)))

    module _ (short : Short read) (a : Result Record Refusal) (next : ℕ) (listed : rest read file t.place ≡ a ∷ rest read file next) where
      same_row : row_of (length going.done + 1) a ≡ row_of (t.count + 1) a
      same_row = ap (λ (n : ℕ). row_of (n + 1) a) (sym same_count)

      all-rows : rows_from 1 (enc_answers read file)
          ≡ (rows_from 1 going.done ++ row_of (t.count + 1) a)
          ++ rows_from (1 + length (going.done ++ (a ∷ []))) (rest read file next)
      all-rows =
          ap (rows_from 1)
          (sym going.all
          ∙ ap (λ (l : List (Result Record Refusal)). going.done ++ l) listed
          ∙ sym (append_assoc going.done (a ∷ []) (rest read file next)))
          ∙ rows_append 1 (going.done ++ (a ∷ [])) (rest read file next)
          ∙ ap (λ (l : List ℕ). l ++ rows_from (1 + length (going.done ++ (a ∷ []))) (rest read file next))
          (rows_more going.done a ∙ ap (λ (l : List ℕ). rows_from 1 going.done ++ l) same_row)

      within-room : length (rows_from 1 going.done) + length (row_of (t.count + 1) a) ≤ 18 * (line_ends_in file + 1)
      within-room =
          omega (
            arith,
            rows_room read short file opened.within opened.size,
            simp length-append at (ap length all-rows),
          )

      same_length : length out ≡ length start
      same_length = ap length going.written ∙ length-placed 0 (rows_from 1 going.done) start

      pub row_fits : t.written + length (row_of (t.count + 1) a) ≤ length out
      row_fits = omega (arith, within-room, same-written, same_length, opened.room)

      pub going-listed : next ≤ length file
          → Going read file start (counted a next t) (placed t.written (row_of (t.count + 1) a) out)
      unfolding counted
      going-listed inside =
          record {
            done = going.done ++ (a ∷ []);
            within = inside;
            all = append_assoc going.done (a ∷ []) (rest read file next)
                ∙ ap (λ (l : List (Result Record Refusal)). going.done ++ l) (sym listed)
                ∙ going.all;
            tally = ap (counted a next) going.tally ∙ sym (tally_more going.done a t.place next);
            written = ap (placed t.written (row_of (t.count + 1) a)) going.written
                ∙ placed-next 0 t.written (rows_from 1 going.done) (row_of (t.count + 1) a) start
                (omega (arith, same-written))
                (omega (arith, within-room, opened.room))
                ∙ ap (λ (l : List ℕ). placed 0 l start)
                (sym (rows_more going.done a ∙ ap (λ (l : List ℕ). rows_from 1 going.done ++ l) same_row));
          }

    module _ (short : Short read) where
      done-room : length (rows_from 1 going.done) ≤ 18 * (line_ends_in file + 1)
      done-room =
          let size = ap (λ (l : List (Result Record Refusal)). length (rows_from 1 l)) going.all in
          omega (
            arith,
            rows_room read short file opened.within opened.size,
            size,
            ap length (rows_append 1 going.done (rest read file t.place))
                ∙ length-append (rows_from 1 going.done) (rows_from (1 + length going.done) (rest read file t.place)),
          )

      left : (s : Step) → step_by read file t.place ≡ s → rest read file t.place ≡ following (rest read file) s
      left s here = rest_step read file t.place going.within ∙ ap (following (rest read file)) here

      pub turn-fits : (s : Step) → step_by read file t.place ≡ s → t.written + length (row_put s t) ≤ length out
      turn-fits (step.Record r c) here = row_fits short (Ok r) c.place (left (step.Record r c) here)
      turn-fits (step.Refused n c) here = row_fits short (Err n) c.place (left (step.Refused n c) here)
      turn-fits (step.End c) here =
          omega (
            arith,
            done-room,
            same-written,
            ap length going.written ∙ length-placed 0 (rows_from 1 going.done) start,
            opened.room,
          )

      pub going-turned : (s : Step) → step_by read file t.place ≡ s
          → Going read file start (turned (length file) s t) (placed t.written (row_put s t) out)
      unfolding moved_to tally_of
      going-turned (step.Record r c) here =
          going-listed short (Ok r) c.place (left (step.Record r c) here) (rises read file t.place (step.Record r c) going.within here refl).1
      going-turned (step.Refused n c) here =
          going-listed short (Err n) c.place (left (step.Refused n c) here) (rises read file t.place (step.Refused n c) going.within here refl).1
      going-turned (step.End c) here =
          record {
            done = going.done;
            within = omega arith;
            all = ap (λ (l : List (Result Record Refusal)). going.done ++ l) (rest_none read file ∙ sym (left (step.End c) here)) ∙ going.all;
            tally = ap (moved_to (length file)) going.tally;
            written = placed_none t.written out ∙ going.written;
          }

      pub turn-rises : (s : Step) → step_by read file t.place ≡ s → t.place < length file → t.place < (turned (length file) s t).place
      unfolding counted moved_to
      turn-rises (step.Record r c) here inside = (rises read file t.place (step.Record r c) going.within here refl).0
      turn-rises (step.Refused n c) here inside = (rises read file t.place (step.Refused n c) going.within here refl).0
      turn-rises (step.End c) here inside = inside

    module _ (ended : length file ≤ t.place) where
      at_end : t.place ≡ length file
      at_end = omega (arith, going.within)

      all_done : going.done ≡ enc_answers read file
      all_done =
          sym (append-nil going.done)
          ∙ ap (λ (l : List (Result Record Refusal)). going.done ++ l) (sym (ap (rest read file) at_end ∙ rest_none read file))
          ∙ going.all

      pub all-tallied : t ≡ tally_of (length file) (enc_answers read file)
      all-tallied = going.tally ∙ ap₂ tally_of at_end all_done

      pub all-written : out ≡ placed 0 (rows_from 1 (enc_answers read file)) start
      all-written = going.written ∙ ap (λ (l : List (Result Record Refusal)). placed 0 (rows_from 1 l) start) all_done
