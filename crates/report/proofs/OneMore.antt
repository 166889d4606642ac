-- Rows, counts and the tally with one answer more.
-- Assumes nothing.
use Rattle.forms.specs.declared.refusals.Refusal.{Refusal}
use Rattle.cell_permit.specs.declared.Record.{Record}
use Rattle.std.specs.Prelude.{Result}
use mathlib.Core.Path.{◌≡◌, refl, sym, ap, ◌∙◌}
use mathlib.Core.Bool.{Bool}
use mathlib.Core.List.{List, [], ◌∷◌, ◌++◌, append_assoc, append-nil}
use Prim.Native.Nat.{ℕ, suc, ◌+◌}
use native.Mathlib.Omega.{arith}
use lib.ListN.{length, length-append}
use Rattle.octets.specs.Every.{count_of}
use Rattle.octets.proofs.Counts.{count_append}
use Rattle.report.specs.LookThrough.{row_of, rows_from, is_noticed, is_refused}
use Rattle.report.specs.Turns.{one_if, tally_of, counted}

pub rows_append : (n : ℕ) (done more : List (Result Record Refusal)) → rows_from n (done ++ more) ≡ rows_from n done ++ rows_from (n + length done) more
unfolding rows_from
rows_append n [] more = let e : n ≡ n + 0 = omega arith in ap (λ (m : ℕ). rows_from m more) e
rows_append n (a ∷ done) more =
    let e : suc n + length done ≡ n + suc (length done) = omega arith in
    ap (λ (l : List ℕ). row_of n a ++ l) (rows_append (suc n) done more ∙ ap (λ (m : ℕ). rows_from (suc n) done ++ rows_from m more) e)
    ∙ sym (append_assoc (row_of n a) (rows_from (suc n) done) (rows_from (n + suc (length done)) more))

count_one : (test : Result Record Refusal → Bool) (a : Result Record Refusal) → count_of test (a ∷ []) ≡ one_if (test a)
unfolding count_of
count_one test a = refl

module _ (done : List (Result Record Refusal)) (a : Result Record Refusal) where
  pub rows_more : rows_from 1 (done ++ (a ∷ [])) ≡ rows_from 1 done ++ row_of (length done + 1) a
  unfolding rows_from
  rows_more =
      let e : 1 + length done ≡ length done + 1 = omega arith in
      rows_append 1 done (a ∷ [])
      ∙ ap (λ (l : List ℕ). rows_from 1 done ++ l) (append-nil (row_of (1 + length done) a) ∙ ap (λ (n : ℕ). row_of n a) e)

  count_more : (test : Result Record Refusal → Bool) → count_of test (done ++ (a ∷ [])) ≡ count_of test done + one_if (test a)
  count_more test = count_append test done (a ∷ []) ∙ ap (λ (n : ℕ). count_of test done + n) (count_one test a)

  pub tally_more : (place next : ℕ) → tally_of next (done ++ (a ∷ [])) ≡ counted a next (tally_of place done)
  unfolding tally_of counted
  tally_more place next =
      cc (
        ap length rows_more ∙ length-append (rows_from 1 done) (row_of (length done + 1) a),
        length-append done (a ∷ []),
        count_more (is_noticed 0),
        count_more (is_noticed 20),
        count_more (is_noticed 15),
        count_more is_refused,
      )
