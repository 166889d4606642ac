-- The parts of all tenants: what they say where the last one ends with the records, and that in records that are right each ends where the next begins.
-- Assumes nothing.
use mathlib.Core.Path.{◌≡◌, refl, sym, ap, ◌∙◌}
use mathlib.Core.Bool.{true}
use mathlib.Core.List.{List, [], ◌∷◌}
use Prim.Native.Nat.{ℕ, zero, suc, ◌+◌, ◌-◌, ◌*◌, ◌/◌, ◌≤◌, ◌<◌}
use native.Mathlib.Omega.{arith}
use borrow.Author.Tests.{leb-true, leb-false, lt-ltb, ltb-true, ltb-false, eqb-true, eqb-false}
use lib.Dec.{leb, ltb, eqb}
use lib.ListN.{length}
use Rattle.octets.specs.Numbers.{Below}
use Rattle.octets.specs.Places.{number_at}
use Rattle.octets.proofs.Every.{either}
use Rattle.tenants.specs.Cells.{starts_above}
use Rattle.tenants.specs.Together.{BookRecord, full_name, cells_of, are_records}
use Rattle.tenants.proofs.OwnCells.{cells_not}
use Rattle.layout.specs.Layout.{record_size, record_place, used_length, setting_place}
use Rattle.judging.specs.Starts.{start_of}
use Rattle.judging.specs.Judging.{part_from, parts_from}
use Rattle.std.specs.Prelude.{Some}
use Rattle.std.proofs.lemmas.Option.{none-some, same_Some}
use Rattle.judging.proofs.StartPlaces.{start_none, start_next}
use Rattle.judging.proofs.PartsSteps.{ends_or_wrong, parts-wrong, parts-long, parts_more}
use Rattle.judging.proofs.OnePart.{starts_lower, right_parts, first_above, from, from_end, held_from, PartSays, part_says, part-goes}

no_cells : (u : ℕ) → length (cells_of u []) ≡ 0
unfolding cells_of
no_cells u = refl

-- records that are right start above tenant 0's beginning
starts_there : (records : List BookRecord) → are_records records ≡ true → starts_above (full_name 0 0) records ≡ true
unfolding starts_above
starts_there [] right = refl
starts_there (r ∷ records) right = lt-ltb (full_name 0 0) r.name (first_above 0 r (right_parts r records right).it (omega arith))

-- records above a tenant's last name are none of its
none_below : (t : ℕ) (records : List BookRecord) → are_records records ≡ true → starts_above (full_name (suc t) 0) records ≡ true
    → length (cells_of t records) ≡ 0
unfolding cells_of
none_below t [] right above = refl
none_below t (r ∷ records) right above =
    let facts = right_parts r records right in
    let high : full_name (suc t) 0 < r.name = ltb-true _ r.name (unfold starts_above in above) in
    ap length (cells_not t r records (λ e. omega arith))
    ∙ none_below t records facts.rest (starts_lower (full_name (suc t) 0) r.name records (omega arith) facts.rise)

module _ (s : List ℕ) (below : Below 256 s) (n : ℕ) (within : used_length n ≤ length s) where
  abbrev used : ℕ
  used = used_length n

  abbrev quota : ℕ → ℕ
  quota t = number_at 2 s (setting_place t)

  -- tenant t's part from record i on, with what is left told by the used length
  part_here : (t i : ℕ) → i ≤ n → part_from s t 0 (record_place i) ((used - record_place i) / record_size) ≡ part_from s t 0 (record_place i) (n - i)
  part_here t i most = let left : (used - record_place i) / record_size ≡ n - i = omega arith in ap (part_from s t 0 (record_place i)) left

  abbrev rest : ℕ → List BookRecord
  rest i = from s below n within i

  abbrev held : ℕ → ℕ → ℕ
  held u i = held_from s below n within u i

  -- what the parts from tenant t on say, which begin at record i and end with the records
  pub record PartsSay (t i : ℕ) : Type 0 where
    pub zeros : (k : ℕ) → i ≤ k → k < n → number_at 3 s (record_place k + 21) ≡ 0
    pub right : are_records (rest i) ≡ true
    pub above : starts_above (full_name t 0) (rest i) ≡ true
    pub kept : (u : ℕ) → t ≤ u → u < 16 → held u i ≤ quota u

  none_held : (u i : ℕ) → n ≤ i → held u i ≡ 0
  none_held u i done = ap (λ (l : List BookRecord). length (cells_of u l)) (from_end s below n within i done) ∙ no_cells u

  say_nothing : (t i : ℕ) → n ≤ i → PartsSay t i
  say_nothing t i done =
      let none = from_end s below n within i done in
      record {
        zeros = λ k high low. absurd (omega arith);
        right = ap are_records none ∙ unfold are_records in refl;
        above = ap (starts_above (full_name t 0)) none ∙ unfold starts_above in refl;
        kept = λ u high low. omega (arith, none_held u i done);
      }

  say_more : (t i j : ℕ) (low : t ≤ 15) → PartSays s below n within t low 0 i j → j - i ≤ quota t → PartsSay (suc t) j → PartsSay t i
  say_more t i j low says few then =
      let risen = says.rise then.right then.above in
      let none = none_below t (rest j) then.right then.above in
      record {
        zeros = λ k high less.
            either (ltb k j)
            (λ before. says.zeros k high (ltb-true k j before))
            (λ after. then.zeros k (ltb-false k j after) less);
        right = risen.0;
        above = risen.1;
        kept = λ u high less.
            either (eqb u t)
            (λ same. rw (eqb-true u t same) (omega (arith, says.own, says.after, none)))
            (λ other. let apart : u ≡ t → ⊥ = eqb-false u t other in
            omega (arith, says.others u apart, then.kept u (omega arith) less));
      }

  pub parts_say : (m t i : ℕ) → t + m ≡ 16 → i ≤ n → parts_from s used t (record_place i) m ≡ Some used → PartsSay t i
  parts_say zero t i sixteen most ends =
      let place : record_place i ≡ used = same_Some _ _ (unfold parts_from in ends) in
      say_nothing t i (omega arith)
  parts_say (suc m) t i sixteen most ends =
      let low : t ≤ 15 = omega arith in
      ends_or_wrong (part_from s t 0 (record_place i) (n - i))
      (λ end is.
      let said = part_says s below n within t low (n - i) 0 i end (omega arith) (omega arith) is in
      let j = said.j in
      let at = part_here t i most ∙ is ∙ ap Some said.place in
      either (leb (record_place j - record_place i) (record_size * quota t))
      (λ few. let bound : record_place j - record_place i ≤ record_size * quota t = leb-true _ _ few in
      say_more t i j low said.says (omega (arith, said.says.after))
      (parts_say m (suc t) j (omega arith) said.says.most (sym (parts_more s used t m (record_place i) (record_place j) at bound) ∙ ends)))
      (λ many. absurd (none-some _ (sym (parts-long s used t m (record_place i) (record_place j) at (leb-false _ _ many)) ∙ ends))))
      (λ wrong. absurd (none-some _ (sym (parts-wrong s used t m (record_place i) (part_here t i most ∙ wrong)) ∙ ends)))

  -- records that are right: each tenant's part ends where the next begins
  module _ (right : are_records (rest 0) ≡ true) (zeros : (k : ℕ) → k < n → number_at 3 s (record_place k + 21) ≡ 0)
      (kept : (u : ℕ) → u < 16 → held u 0 ≤ quota u) where
    -- tenant t's part begins at record i
    record Begins (t i : ℕ) : Type 0 where
      most : i ≤ n
      good : are_records (rest i) ≡ true
      above : starts_above (full_name t 0) (rest i) ≡ true
      same : (u : ℕ) → t ≤ u → held u i ≡ held u 0
      place : i ≡ start_of t (rest 0)

    begins_first : Begins 0 0
    begins_first = record {
      most = omega arith;
      good = right;
      above = starts_there (rest 0) right;
      same = λ u high. refl;
      place = sym (start_none (rest 0));
    }

    -- and that of the next where it ends
    record Next (t i : ℕ) : Type 0 where
      j : ℕ
      is : part_from s t 0 (record_place i) (n - i) ≡ Some (record_place j)
      size : j ≡ i + held t 0
      then : Begins (suc t) j

    begins-next : (t i : ℕ) → t ≤ 15 → Begins t i → Next t i
    begins-next t i low begins =
        let goes = part-goes s below n within t low zeros (n - i) 0 i (omega (arith, begins.most)) (omega arith) begins.good begins.above in
        let j = goes.j in
        let says = goes.says in
        let none = none_below t (rest j) goes.right goes.above in
        let size : j ≡ i + held t 0 = omega (arith, says.own, none, begins.same t (omega arith)) in
        record {
          j = j;
          is = goes.is;
          size = size;
          then = record {
            most = says.most;
            good = goes.right;
            above = goes.above;
            same = λ u high. sym (says.others u (λ e. omega arith)) ∙ begins.same u (omega arith);
            place = omega (arith, size, begins.place, start_next t (rest 0));
          };
        }

    record Parts (t m i : ℕ) : Type 0 where
      j : ℕ
      is : parts_from s used t (record_place i) m ≡ Some (record_place j)
      then : Begins (t + m) j

    parts-go : (m t i : ℕ) → t + m ≤ 16 → Begins t i → Parts t m i
    parts-go zero t i sixteen begins =
        let all : t ≡ t + 0 = omega arith in
        record { j = i; is = unfold parts_from in refl; then = rw (sym all) begins }
    parts-go (suc m) t i sixteen begins =
        let next = begins-next t i (omega arith) begins in
        let others = parts-go m (suc t) next.j (omega arith) next.then in
        let few : record_place next.j - record_place i ≤ record_size * quota t = omega (arith, next.size, kept t (omega arith)) in
        let one : suc t + m ≡ t + suc m = omega arith in
        record {
          j = others.j;
          is = parts_more s used t m (record_place i) (record_place next.j) (part_here t i begins.most ∙ next.is) few ∙ others.is;
          then = rw one at others.then;
        }

    -- the parts of the tenants below m end where tenant m's records start
    pub parts-start : (m : ℕ) → m ≤ 16 → parts_from s used 0 (record_place 0) m ≡ Some (record_place (start_of m (rest 0)))
    parts-start m most =
        let parts = parts-go m 0 0 (omega arith) begins_first in
        let all : 0 + m ≡ m = omega arith in
        parts.is ∙ ap (λ (i : ℕ). Some (record_place i)) (parts.then.place ∙ ap (λ (k : ℕ). start_of k (rest 0)) all)
